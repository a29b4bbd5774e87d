use Rattle.std.proofs.Common.{◌≡◌, ap, arith, length, subst, sym, Some}
use Rattle.std.specs.Prelude.{slice_get}
use denote.Exit.{no}
use denote.Param.{param, copied}
use denote.Param.Send.{param_sync, arg_sync}
use Rattle.rom_store.proofs.Places.{written_back}
use Rattle.rom_talk.proofs.Lending.{room_sync}
use Rattle.rom_talk.proofs.running.serve_all.Goals as goal

pub serve_each-requires-sync-W : goal.serve_each-requires-sync-W
serve_each-requires-sync-W g c κs within =
    let b = c.type_bounds in let r = g.row in let o = g.O in
    param_sync 0 _ (arg_sync _ no _ (room_sync (param 0 r.D) (param 1 r.O) (param 2 r.N) (param 3 r.W) (copied 9 r.O-Call) (copied 10 r.O-Query) (copied 11 r.O-Reply) (copied 12 r.O-Answer)
    g.D.Device g.N.Label g.W.Shipper o.Object o.Call.Clone o.Query.Clone o.Reply.Clone o.Answer.Clone
    b.send-D b.send-O b.send-N b.send-W b.send-O-Call b.send-O-Query b.send-O-Reply b.send-O-Answer b.sync-O b.sync-N b.sync-O-Call b.sync-O-Query b.sync-O-Reply b.sync-O-Answer
    _ (param 4 r.L) (param 5 r.T) (param 8 r.G) b.sync-L b.sync-T b.sync-G))

pub returns-clause-served : goal.returns-clause-served
returns-clause-served g c = λ i a e was now.
    let news = c.serve_each.new.talkers in
    let whole = written_back news c.args.talkers.now.items c.args.talkers.now.len (omega (arith, c.serve_each.auto.talkers, ap length c.as_mut_slice.ensures.value, c.args.talkers.now.ok)) in
    c.serve_each.ensures i a e (subst (λ ts. slice_get ts i ≡ Some a) (sym c.as_mut_slice.ensures.value) was) (subst (λ ts. slice_get ts i ≡ Some e) whole now)
