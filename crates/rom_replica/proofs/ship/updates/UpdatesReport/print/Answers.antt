use Rattle.std.proofs.Common.{◌≡◌, ◌∙◌, ℕ, ◌≤◌, List, [], ◌∷◌, refl, ap, length, map, min, subst, take, arith}
use Rattle.std.proofs.lemmas.List.{length-set}
use Rattle.rom_lines.specs.Replies.{Reserved}
use Rattle.rom_lines.specs.Steps.{Items}
use Rattle.std.specs.List.{AllByRecursion, flat_map}
use Rattle.std.specs.Prelude.{OnOk}
use Rattle.rom_model.specs.declared.call.Answer.{Answer}
use Rattle.rom_model.specs.declared.call.Call.{Call}
use Rattle.rom_model.specs.declared.call.Query.{Query}
use Rattle.rom_model.specs.declared.call.Reply.{Reply}
use Rattle.rom_model.specs.declared.line.LineResult.{LineResult}
use Rattle.rom_model.specs.declared.line.Step.{Step}
use Rattle.rom_frame.specs.Frames.{IsOfWords, frame}
use Rattle.rom_text.specs.Streams.{Prints}
use Rattle.rom_replica.specs.Merging.{all_updates, frames_left, merged_frames}
use Rattle.rom_replica.specs.declared.ship.caller.Caller.{Caller}
use Rattle.rom_replica.proofs.Taking.{all_there, one_more}
use Rattle.rom_replica.proofs.Writing.{no_turn, under_way, whole, whole_of_words}
use Rattle.rom_replica.proofs.ship.updates.UpdatesReport.print.Goals as goal

pub loop-i-preserved : goal.loop-i-preserved
loop-i-preserved g c =
    let scripts = c.args.self.now.scripts.now in
    let results = c.args.self.now.results.now in
    record {
      many = length-set c.loop-i.callers c.loop-i.i c.from.result ∙ c.loop-i.invariant.many;
      own = one_more (λ caller. frames_left caller.at caller.script.now.items caller.results.now.items) (λ v. v.items) (λ v. v.items) c.loop-i.i c.loop-i.callers scripts results c.from.result c.index-self-i.result c.index-self-i-in-loop-i.result
          (omega (arith, c.loop-i.invariant.many, c.loop-i-test.true, c.min-many.ensures, c.args.self.now.few)) (omega (arith, c.loop-i-test.true, c.min-many.ensures)) (omega (arith, c.loop-i-test.true, c.min-many.ensures)) c.loop-i.invariant.own
          c.from.ensures;
    }

-- the callers up to the last one have all updates
all_of : (many i : ℕ) (cs : List Caller) (vs : List (Items (Step Call Query))) (ws : List (Reserved (LineResult Reply Answer))) → i ≤ many → many ≤ i → many ≡ min (length vs) (length ws) →
    map (λ c. frames_left c.at c.script.now.items c.results.now.items) (take i cs) ≡ all_updates (map (λ v. v.items) (take i vs)) (map (λ v. v.items) (take i ws)) →
    map (λ c. frames_left c.at c.script.now.items c.results.now.items) (take many cs) ≡ all_updates (map (λ v. v.items) vs) (map (λ v. v.items) ws)
all_of many i cs vs ws low high is own =
    let same : i ≡ many = omega (arith, low, high) in
    subst (λ (n : ℕ). map (λ c. frames_left c.at c.script.now.items c.results.now.items) (take n cs) ≡ all_updates (map (λ v. v.items) (take n vs)) (map (λ v. v.items) (take n ws))) same own
    ∙ all_there {X = Caller} (λ c. frames_left c.at c.script.now.items c.results.now.items) (λ v. v.items) (λ v. v.items) many vs ws is

pub returns-clause-prints : goal.returns-clause-prints
returns-clause-prints g c =
    let some : 1 ≤ c.min-many.result = omega (arith, c.if-many-eq0.false) in
    subst (λ qs. Prints g.O.Sink.shown c.args.out.now c.print_merged.new.out c.print_merged.result (flat_map frame (merged_frames c.args.self.now.count qs)))
    (all_of c.min-many.result c.loop-i.i c.loop-i.callers c.args.self.now.scripts.now c.args.self.now.results.now (c.loop-i.auto.i-end some) c.loop-i-test.false c.min-many.ensures c.loop-i.invariant.own)
    c.print_merged.ensures.prints

pub returns-clause-of_type : goal.returns-clause-of_type
returns-clause-of_type g c =
    let some : 1 ≤ c.min-many.result = omega (arith, c.if-many-eq0.false) in
    subst (λ qs. OnOk c.print_merged.result (AllByRecursion IsOfWords (merged_frames c.args.self.now.count qs)))
    (all_of c.min-many.result c.loop-i.i c.loop-i.callers c.args.self.now.scripts.now c.args.self.now.results.now (c.loop-i.auto.i-end some) c.loop-i-test.false c.min-many.ensures c.loop-i.invariant.own)
    c.print_merged.ensures.of_words

-- no callers have no updates
no_callers : (vs : List (Items (Step Call Query))) (ws : List (Reserved (LineResult Reply Answer))) → min (length vs) (length ws) ≡ 0 → all_updates (map (λ v. v.items) vs) (map (λ v. v.items) ws) ≡ []
no_callers [] ws none = refl
no_callers (v ∷ vs) [] none = refl
no_callers (v ∷ vs) (w ∷ ws) none = absurd (omega (arith, none))

none_merged : (n : ℕ) (vs : List (Items (Step Call Query))) (ws : List (Reserved (LineResult Reply Answer))) → min (length vs) (length ws) ≡ 0 → merged_frames n (all_updates (map (λ v. v.items) vs) (map (λ v. v.items) ws)) ≡ []
none_merged n vs ws none = ap (merged_frames n) (no_callers vs ws none) ∙ no_turn n [] refl

pub returns-then-many-eq0-clause-prints : goal.returns-then-many-eq0-clause-prints
returns-then-many-eq0-clause-prints g c =
    let k = g.O.Sink.shown in
    let own = c.args.self.now in
    let queues = all_updates (map (λ v. v.items) own.scripts.now) (map (λ v. v.items) own.results.now) in
    let none : min (length own.scripts.now) (length own.results.now) ≡ 0 = omega (arith, c.min-many.ensures, c.if-many-eq0.true) in
    whole k c.args.out.now own.count queues c.args.out.now queues own.count (under_way k c.args.out.now own.count queues) (none_merged own.count own.scripts.now own.results.now none)

pub returns-then-many-eq0-clause-of_type : goal.returns-then-many-eq0-clause-of_type
returns-then-many-eq0-clause-of_type g c =
    let k = g.O.Sink.shown in
    let own = c.args.self.now in
    let queues = all_updates (map (λ v. v.items) own.scripts.now) (map (λ v. v.items) own.results.now) in
    let none : min (length own.scripts.now) (length own.results.now) ≡ 0 = omega (arith, c.min-many.ensures, c.if-many-eq0.true) in
    whole_of_words k c.args.out.now own.count queues c.args.out.now queues own.count (under_way k c.args.out.now own.count queues) (none_merged own.count own.scripts.now own.results.now none)
