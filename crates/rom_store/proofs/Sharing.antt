-- What threads are lent: a store, and the room of its callers.
use Prim.Native.Nat.{ℕ}
use mathlib.Core.List.{List, [], ◌∷◌}
use denote.RattleType.{RattleType}
use denote.Ref.{NamedLft, ShrRef}
use denote.Struct.Declared.{shape}
use denote.Struct.Struct.{Struct}
use denote.Struct.Tuple.{TupleAt}
use denote.Param.Send.{IsSend, IsSync, recorded_sync, sendable, struct_sync}
use Rattle.rom_device.specs.declared.device.Device
use Rattle.rom_model.specs.declared.object.Object
use Rattle.rom_combine.specs.declared.shipper.Shipper
use Rattle.rom_lines.proofs.script.Script.TheSendSync as script
use Rattle.rom_lr.proofs.shared.Shared.TheSendSync as shared
use Rattle.std.specs.declared.clone.Clone
use Rattle.std.specs.contracts.sync.Mutex
use Rattle.std.proofs.Crossing.{crosses}
use Rattle.rom_store.specs.declared.label.Label
use Rattle.rom_lr.specs.contracts.shared.Shared
use Rattle.rom_store.specs.contracts.begun.Begun
use Rattle.rom_store.specs.contracts.held.Held
use Rattle.rom_store.specs.contracts.pace.Pace
use Rattle.rom_store.specs.contracts.store.Store
use Rattle.rom_store.specs.contracts.work.Room
use Rattle.rom_store.proofs.held.Held.TheSendSync as held

-- what a closure holds that has two references
pub captures : (name : List ℕ) (ℓ ℓ' : NamedLft) (S T : RattleType) → IsSync S → IsSync T → IsSync (TupleAt name (ShrRef ℓ.mir ℓ.lft S ∷ ShrRef ℓ'.mir ℓ'.lft T ∷ []))
captures name ℓ ℓ' S T s t = search sendable

module _ (D O N C Q R A : RattleType) (g : Device.Ghosts D.Denot) (g' : Label.Ghosts N.Denot) (g'' : Object.Ghosts O.Denot C.Denot Q.Denot R.Denot A.Denot)
    (c : Clone.Ghosts C.Denot) (a : Clone.Ghosts Q.Denot) (a' : Clone.Ghosts R.Denot) (e : Clone.Ghosts A.Denot)
    (d : IsSend D) (o : IsSend O) (n : IsSend N) (call : IsSend C) (query : IsSend Q) (reply : IsSend R) (answer : IsSend A)
    (o' : IsSync O) (n' : IsSync N) (call' : IsSync C) (query' : IsSync Q) (reply' : IsSync R) (answer' : IsSync A) where
  words_sync : IsSync (Shared.the_field O C Q R A g'' c a a' e).row
  words_sync = search (sendable, crosses, shared.the_field_sync) depth 20

  begun_sync : IsSync Begun.the_field.row
  begun_sync = search (sendable, crosses) depth 20

  pace_sync : IsSync Pace.the_field.row
  pace_sync = search (sendable, crosses) depth 20

  module _ (W : RattleType) (h : Shipper.Ghosts W.Denot) (w : IsSend W) where
    held_send : IsSend (Held.the_row D O N W C Q R A g g'' g' h)
    held_send = search (sendable, crosses, held.the_send) depth 20

    lock_sync : IsSync (Mutex.the_field (Held.the_row D O N W C Q R A g g'' g' h)).row
    lock_sync = search (sendable, crosses, held_send) depth 20

    pub store_sync : IsSync (Store.the_row D O N W C Q R A g g' h g'' c a a' e)
    store_sync =
        let t = Store.the_type D O N W C Q R A g g' h g'' c a a' e in
        recorded_sync (Struct (shape t)) t.D t.to t.to_one (struct_sync (shape t) (words_sync, (pace_sync, (search (sendable, crosses) depth 20, (lock_sync, (begun_sync, tt))))))

  -- the store of a room ships nothing
  pub room_sync : (ℓ : NamedLft) (G : RattleType) → IsSync G → IsSync (Room.the_row ℓ D O N G C Q R A g g' g'' c a a' e)
  room_sync ℓ G s = search (sendable, crosses, store_sync, script.the_sync) depth 20
