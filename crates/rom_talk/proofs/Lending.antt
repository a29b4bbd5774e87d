-- What threads are lent: what all callers share.
use denote.RattleType.{RattleType}
use denote.Ref.{NamedLft}
use denote.Struct.Declared.{shape}
use denote.Struct.Struct.{Struct}
use denote.Param.Send.{IsSend, IsSync, recorded_sync, sendable, struct_sync}
use Rattle.rom_combine.specs.declared.shipper.Shipper
use Rattle.rom_device.specs.declared.device.Device
use Rattle.rom_model.specs.declared.object.Object
use Rattle.std.specs.declared.clone.Clone
use Rattle.std.proofs.Crossing.{crosses}
use Rattle.rom_store.specs.declared.label.Label
use Rattle.rom_store.specs.contracts.store.Store
use Rattle.rom_store.proofs.Sharing.{store_sync}
use Rattle.rom_talk.specs.contracts.converse.Room

module _ (D O N W C Q R A : RattleType) (g : Device.Ghosts D.Denot) (g' : Label.Ghosts N.Denot) (h : Shipper.Ghosts W.Denot) (g'' : Object.Ghosts O.Denot C.Denot Q.Denot R.Denot A.Denot)
    (c : Clone.Ghosts C.Denot) (a : Clone.Ghosts Q.Denot) (a' : Clone.Ghosts R.Denot) (e : Clone.Ghosts A.Denot)
    (d : IsSend D) (o : IsSend O) (n : IsSend N) (w : IsSend W) (call : IsSend C) (query : IsSend Q) (reply : IsSend R) (answer : IsSend A)
    (o' : IsSync O) (n' : IsSync N) (call' : IsSync C) (query' : IsSync Q) (reply' : IsSync R) (answer' : IsSync A) where
  shared : IsSync (Store.the_row D O N W C Q R A g g' h g'' c a a' e)
  shared = store_sync D O N C Q R A g g' g'' c a a' e d o n call query reply answer o' n' call' query' reply' answer' W h w

  pub room_sync : (ℓ : NamedLft) (L T G : RattleType) → IsSync L → IsSync T → IsSync G → IsSync (Room.the_row ℓ D O N W L T G C Q R A g g' h g'' c a a' e)
  room_sync ℓ L T G l t s =
      let r = Room.the_type ℓ D O N W L T G C Q R A g g' h g'' c a a' e in
      recorded_sync (Struct (shape r)) r.D r.to r.to_one (struct_sync (shape r)
      (search (sendable, crosses, shared) depth 20, (search (sendable, crosses) depth 20, (search (sendable, crosses) depth 20, (search (sendable, crosses) depth 20, tt)))))
