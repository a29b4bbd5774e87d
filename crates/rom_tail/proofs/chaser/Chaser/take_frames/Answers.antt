use Rattle.std.proofs.Common.{◌≡◌, ◌+◌, ◌<◌, ◌≤◌, ◌∙◌, ℕ, List, [], length, map, ap, subst, arith}
use Rattle.std.specs.Prelude.{None}
use Rattle.rom_model.specs.History.{LAST_COUNT}
use Rattle.rom_replica.specs.Turns.{applied}
use Rattle.rom_tail.specs.Batches.{IsCompared, call_in, many_next}
use Rattle.rom_tail.specs.Chased.{Chased, DoesBatch, HasDone, TakesFrames, chased}
use Rattle.rom_tail.specs.declared.batch.Took.{Took}
use Rattle.rom_tail.specs.declared.few.TheConstants.{MOST}
use Rattle.rom_tail.proofs.Taking.{none_next, none_taken, some_next, takes}
use Rattle.rom_tail.proofs.chaser.Chaser.take_frames.Goals as goal

pub next_calls-requires-clause-within : goal.next_calls-requires-clause-within
next_calls-requires-clause-within g c = let formed = c.self.invariant.formed in (c.self.invariant.done formed.0 formed.1 formed.2).within

pub compare-took-requires-clause-within : goal.compare-took-requires-clause-within
compare-took-requires-clause-within g c = let formed = c.self.invariant.formed in (c.self.invariant.done formed.0 formed.1 formed.2).within

pub returns-then-is_empty-clause-takes : goal.returns-then-is_empty-clause-takes
returns-then-is_empty-clause-takes g c =
    let none : applied c.self.inside.count c.args.frames.now ≡ [] = none_next (applied c.self.inside.count c.args.frames.now) c.next_calls.new.calls.items c.next_calls.ensures.calls c.if-is_empty.ensures in
    let took : Took = record { counted = length c.args.frames.now; stop = None } in
    subst (λ (x : Chased). TakesFrames c.args.frames.now x x took) c.self.view_is (none_taken c.args.frames.now (chased c.self.inside.count c.self.inside.lone.core.view) none)

pub returns-then-is_empty-clause-done : goal.returns-then-is_empty-clause-done
returns-then-is_empty-clause-done g c s k held = subst (λ (x : Chased). HasDone g.N.Label.base.order s k x) c.self.view_is (c.self.invariant.done s k held)

pub compare-took-requires-clause-told : goal.compare-took-requires-clause-told
compare-took-requires-clause-told g c =
    let did = c.do_calls-batched.ensures.does c.self.inside.count c.self.invariant in
    omega (arith, did.batch.told, ap length c.as_slice-2.ensures.words)

pub overflow_add-self : goal.overflow_add-self
overflow_add-self g c =
    let did = c.do_calls-batched.ensures.does c.self.inside.count c.self.invariant in
    let formed = c.self.invariant.formed in
    let within : c.self.inside.count ≤ LAST_COUNT = (c.self.invariant.done formed.0 formed.1 formed.2).within in
    let few : length c.as_slice.result.now ≤ MOST = c.as_slice.ensures.fits in
    omega (arith, did.batch.fits, within, few)

pub invariant_of-self : goal.invariant_of-self
invariant_of-self g c = c.do_calls-batched.ensures.keeps c.self.inside.count c.self.invariant

pub returns-clause-done : goal.returns-clause-done
returns-clause-done g c s k held = (c.do_calls-batched.ensures.keeps c.self.inside.count c.self.invariant).done s k held

pub returns-clause-takes : goal.returns-clause-takes
returns-clause-takes g c =
    let count = c.self.inside.count in
    let frames = c.args.frames.now in
    let batched = c.do_calls-batched in
    let old = chased count c.self.inside.lone.core.view in
    let new = chased (count + batched.result.done) batched.new.lone.core.view in
    let did : DoesBatch (map call_in (applied count frames)) old new batched.new.replies batched.result.done batched.result.short =
    subst (λ (calls : List (List ℕ)). DoesBatch calls old new batched.new.replies batched.result.done batched.result.short) (c.as_slice.ensures.value ∙ c.next_calls.ensures.calls) (batched.ensures.does count c.self.invariant) in
    let compared : IsCompared count frames batched.new.replies batched.result.done batched.result.short c.compare-took.result =
    subst (λ (replies : List (List ℕ)). IsCompared count frames replies batched.result.done batched.result.short c.compare-took.result) c.as_slice-2.ensures.words c.compare-took.ensures in
    let some : 0 < many_next count frames = some_next (applied count frames) c.next_calls.new.calls.items c.next_calls.ensures.calls c.if-is_empty.ensures in
    subst (λ (x : Chased). TakesFrames frames x new c.compare-took.result) c.self.view_is
    (takes frames old new c.compare-took.result batched.new.replies batched.result.done batched.result.short c.requires.few some did compared)
