use denote.Exit.{no}
use denote.Param.{param}
use denote.Param.Send.{param_send, arg_send}
use Rattle.rom_store.proofs.pass.Pass.TheSendSync as pass
use Rattle.rom_rows.proofs.Sharing.{captures, trio_store_sync}
use Rattle.rom_rows.proofs.stores.Beside.TheSendSync as beside
use Rattle.rom_rows.proofs.stores.read_and_update.Goals as goal

pub join-requires-send-F : goal.join-requires-send-F
join-requires-send-F g c κs within =
    let b = c.type_bounds in
    let store = trio_store_sync (param 0 g.row.D) (param 1 g.row.N) g.D.Device g.N.Label b.send-D b.send-N b.sync-N in
    param_send 1 _ (arg_send _ no _ (captures _ _ _ _ _ _ store pass.the_send beside.the_sync))
