use Rattle.std.proofs.Common.{◌∙◌, ℕ, [], ◌∷◌, arith, length, refl, subst, sym}
use Rattle.std.proofs.lemmas.Iterator.Adapters.{YieldsList-from_vec}
use Rattle.std.proofs.lemmas.Iterator.Consumers.{YieldsList-turn}
use Rattle.std.proofs.lemmas.List.{length-append}
use Rattle.rom_store.specs.Callers.{IsNewCaller}
use Rattle.rom_store.proofs.Ending.{at_turn}
use Rattle.rom_store.proofs.Places.{push_at}
use Rattle.rom_caller.proofs.rooms.deal.Goals as goal

pub loop-pass-preserved : goal.loop-pass-preserved
loop-pass-preserved g c =
    let b = c.loop-pass.invariant in
    let gives = c.into_iter-pass-iterator.ensures.into_iter_gives in
    let all = YieldsList-from_vec {s = c.into_iter-pass-iterator.result} c.args.passes.items gives.0 (gives.1 ∙ c.args.passes.ok.0) in
    let turn = YieldsList-turn all c.loop-pass.yielded c.loop-pass.pass-iterator c.loop-pass.yielded_by c.next.result c.next.new.self c.in-Some.pass c.in-Some.is c.next.ensures.steps in
    let P = IsNewCaller g.O.Object.Contents g.N.Label.table g.N.Label.base in
    let new = at_turn P c.args.passes.items (length c.loop-pass.yielded) c.in-Some.pass c.requires.fresh turn in
    record {
      many = omega (arith, c.push_reserved.ensures.len, c.push_reserved.new.self.ok, c.loop-pass.jobs.ok, b.many, length-append c.loop-pass.yielded (c.in-Some.pass ∷ []));
      jobs = rw c.push_reserved.ensures.items (push_at _ c.loop-pass.jobs.items _ b.jobs (record { caller = c.in-Some.pass; pass_is = refl; new = subst (λ (n : ℕ). P n c.in-Some.pass) (sym b.many) new }));
      space = c.push_reserved.ensures.capacity ∙ b.space;
    }
