use Rattle.std.proofs.Common.{length, ap, ◌∙◌}
use Rattle.std.proofs.lemmas.Iterator.Adapters.{YieldsList-from_vec}
use Rattle.std.proofs.lemmas.Iterator.Consumers.{YieldsList-turn, YieldsList-end}
use Rattle.rom_rule.specs.Views.{base_of}
use Rattle.rom_store.specs.Callers.{Caller, IsCallerOf}
use Rattle.rom_store.proofs.Ending.{at_turn, taken_all, taken_more, writer_stays}
use Rattle.rom_store.proofs.closing.take_in_all.Goals as goal

pub take_in-requires-clause-caller : goal.take_in-requires-clause-caller
take_in-requires-clause-caller g c =
    let gives = c.into_iter-pass-iterator.ensures.into_iter_gives in
    let all = YieldsList-from_vec {s = c.into_iter-pass-iterator.result} c.args.passes.items gives.0 (gives.1 ∙ c.args.passes.ok.0) in
    let turn = YieldsList-turn all c.loop-pass.yielded c.loop-pass.pass-iterator c.loop-pass.yielded_by c.next.result c.next.new.self c.in-Some.pass c.in-Some.is c.next.ensures.steps in
    let table = c.args.shared.now.table.shared in
    let is : IsCallerOf g.O.Object.Contents table.table_id (base_of table.key) c.in-Some.pass
    = at_turn (λ i p. IsCallerOf g.O.Object.Contents table.table_id (base_of table.key) p) c.args.passes.items (length c.loop-pass.yielded) c.in-Some.pass c.requires.passes turn in
    (ap (λ (p : Caller). p.table_id) c.pass.view_is ∙ is.table_is, ap (λ (p : Caller). p.view.base) c.pass.view_is ∙ is.base_is)

pub loop-pass-preserved : goal.loop-pass-preserved
loop-pass-preserved g c = let b = c.loop-pass.invariant in let told = c.take_in.ensures in record {
  of = writer_stays c.args.shared.now c.loop-pass.writer c.take_in.new.writer c.pass.inside.seat.token.me.0 told.same.0 told.joined b.of;
  id = cc (told.same.1, b.id);
  joined = taken_more c.args.writer.now.token.me.0 c.loop-pass.writer.token.me.0 c.take_in.new.writer.token.me.0 c.pass.inside.seat.token.me.0 c.loop-pass.yielded c.in-Some.pass b.joined told.joined (ap (λ (p : Caller). p.view) c.pass.view_is);
}

pub returns-clause-joined : goal.returns-clause-joined
returns-clause-joined g c =
    let gives = c.into_iter-pass-iterator.ensures.into_iter_gives in
    let all = YieldsList-from_vec {s = c.into_iter-pass-iterator.result} c.args.passes.items gives.0 (gives.1 ∙ c.args.passes.ok.0) in
    let end = YieldsList-end all c.loop-pass.yielded c.loop-pass.pass-iterator c.loop-pass.yielded_by c.next.result c.next.new.self c.in-None.is c.next.ensures.steps in
    taken_all c.args.writer.now.token.me.0 c.loop-pass.writer.token.me.0 c.loop-pass.yielded c.args.passes.items c.loop-pass.invariant.joined end.0
