-- What threads are lent: a store, and what its callers are to do.
use denote.RattleType.{RattleType}
use denote.Ref.{NamedLft}
use denote.Param.Send.{IsSend, IsSync, sendable}
use Rattle.rom_combine.proofs.shipper.NoShipper.TheSendSync as unshipped
use Rattle.rom_device.specs.declared.device.Device
use Rattle.rom_model.specs.declared.object.Object
use Rattle.std.specs.declared.clone.Clone
use Rattle.std.proofs.Crossing.{crosses}
use Rattle.rom_store.specs.declared.label.Label
use Rattle.rom_store.proofs.Sharing.{store_sync}
use Rattle.rom_caller.specs.contracts.job.Room

module _ (D O N C Q R A : RattleType) (g : Device.Ghosts D.Denot) (g' : Label.Ghosts N.Denot) (g'' : Object.Ghosts O.Denot C.Denot Q.Denot R.Denot A.Denot)
    (c : Clone.Ghosts C.Denot) (a : Clone.Ghosts Q.Denot) (a' : Clone.Ghosts R.Denot) (e : Clone.Ghosts A.Denot)
    (d : IsSend D) (o : IsSend O) (n : IsSend N) (call : IsSend C) (query : IsSend Q) (reply : IsSend R) (answer : IsSend A)
    (o' : IsSync O) (n' : IsSync N) (call' : IsSync C) (query' : IsSync Q) (reply' : IsSync R) (answer' : IsSync A) where
  pub room_sync : (ℓ : NamedLft) (W : RattleType) → IsSync W → IsSync (Room.the_row ℓ D O N W C Q R A g g' g'' c a a' e)
  room_sync ℓ W s = search (sendable, crosses, store_sync, unshipped.the_send) depth 20
