use Rattle.std.proofs.Common.{◌*◌, length, arith, sym, ap, ◌∙◌, refl}
use Rattle.rom_model.specs.State.{one, state_after, replies_to}
use Rattle.rom_model.specs.Singles.{kind_of, reply_of}
use Rattle.rom_model.specs.Trio.{members}
use Rattle.rom_model.specs.declared.call.Kind.TheVariants as kind
use Rattle.rom_model.specs.declared.call.Reply.TheVariants as reply
use Rattle.rom_heap.proofs.Grouping.{by_kind, group_done, group_refused, few_of_all, stores_fewer}
use Rattle.rom_heap.proofs.apply.apply.Goals as goal

pub returns-in-Single-clause-done : goal.returns-in-Single-clause-done
returns-in-Single-clause-done g c s k held =
    let done = c.apply_one.ensures.done s k held in
    let after = one c.args.order s k c.in-Single.single in
    by_kind c.args.order s k (g.M.Look.shown.image c.apply_one.new.space) c.args.call.now (kind.Single c.in-Single.single) (after.0, reply_of after.1) c.plain.result (sym c.kind.ensures ∙ c.in-Single.is) refl (c.plain.ensures ∙ ap reply_of done.0) done.1

pub returns-in-Some-clause-done : goal.returns-in-Some-clause-done
returns-in-Some-clause-done g c s k held =
    let n = c.args.order in
    let calls = c.as_slice.result.now in
    let done = c.in-Some.ensures.done s k held in
    by_kind n s k (g.M.Look.shown.image c.apply_group.new.space) c.args.call.now (kind.Several calls) (state_after n s k calls, reply.All (replies_to n s k calls)) (reply.All c.in-Some.replies) (sym c.kind.ensures ∙ (c.in-Several.is ∙ ap kind.Several (sym c.as_slice.ensures.is)))
    (group_done n s k calls done.0) (ap reply.All done.1) done.2

pub returns-in-None-clause-done : goal.returns-in-None-clause-done
returns-in-None-clause-done g c s k held =
    let n = c.args.order in
    let calls = c.as_slice.result.now in
    let done = c.in-None.ensures.done s k held in
    by_kind n s k (g.M.Look.shown.image c.apply_group.new.space) c.args.call.now (kind.Several calls) (s, reply.Full) reply.Full (sym c.kind.ensures ∙ (c.in-Several.is ∙ ap kind.Several (sym c.as_slice.ensures.is))) (group_refused n s k calls done.0) refl done.1

pub returns-in-Some-clause-most : goal.returns-in-Some-clause-most
returns-in-Some-clause-most g c =
    let calls = c.as_slice.result.now in
    let many = ap members (sym c.kind.ensures ∙ (c.in-Several.is ∙ ap kind.Several (sym c.as_slice.ensures.is))) in
    stores_fewer (32 * members (kind_of c.args.call.now)) (omega (arith, many, few_of_all c.args.order c.requires.order.most calls c.in-Some.replies, c.as_slice.ensures.least, ap length c.as_slice.ensures.is)) c.in-Some.ensures.stores
