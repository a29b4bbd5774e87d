use Rattle.std.proofs.Common.{rules}
use denote.Exit.{no}
use denote.Param.{param, copied}
use denote.Param.Send.{param_sync, arg_sync}
use Rattle.rom_store.proofs.Each.{of_each}
use Rattle.rom_store.proofs.Sharing.{captures}
use Rattle.rom_caller.specs.Working.{HasComeBack}
use Rattle.rom_caller.proofs.Sharing.{room_sync}
use Rattle.rom_caller.proofs.job.work_all.Goals as goal

pub for_each_mut-requires-sync-F : goal.for_each_mut-requires-sync-F
for_each_mut-requires-sync-F g c κs within =
    let b = c.type_bounds in let r = g.row in let o = g.O in
    let room = room_sync (param 0 r.D) (param 1 r.O) (param 2 r.N) (copied 5 r.O-Call) (copied 6 r.O-Query) (copied 7 r.O-Reply) (copied 8 r.O-Answer)
    g.D.Device g.N.Label o.Object o.Call.Clone o.Query.Clone o.Reply.Clone o.Answer.Clone
    b.send-D b.send-O b.send-N b.send-O-Call b.send-O-Query b.send-O-Reply b.send-O-Answer b.sync-O b.sync-N b.sync-O-Call b.sync-O-Query b.sync-O-Reply b.sync-O-Answer in
    param_sync 2 _ (arg_sync _ no _ (captures _ _ _ _ _ b.sync-R (room _ (param 3 r.W) b.sync-W)))

pub returns : goal.returns
returns g c = record {
  done = of_each _ _ (λ a b. HasComeBack g.O.Object.Contents g.N.Label.table g.N.Label.base (g.W.Work.Did c.args.room.now.work.now) a.pass b.pass b.out) _ _ c.for_each_mut.ensures (λ n p q post. search rules);
}
