-- What a contract sees of a core, and what holds whenever no pass is under way.
use Rattle.std.specs.Prelude.{◌≡◌, ℕ, ◌*◌, ◌≤◌, List, [], Option, true, IsTrue}
use Rattle.atomic_table.specs.Seated.{TableId}
use Rattle.rom_model.specs.Blocks.{IsOrder}
use Rattle.rom_model.specs.Passes.{faults_after}
use Rattle.rom_device.specs.Device.{ShownDevice}
use Rattle.rom_twin.specs.Seen.{NeedsRepair, Rests, Seen, committed}
use Rattle.rom_combine.specs.Histories.{ImageAt}
use Rattle.rom_lr.specs.Seats.{opened_with}
use Rattle.rom_lr.specs.declared.shared.Shared.{Shared}
use Rattle.rom_ranges.specs.Log.{Logged}
use Rattle.rom_rule.specs.Readers.{Held, Settled}
use Rattle.rom_rule.specs.Views.{Each, plan_of, records_of}
use Rattle.rom_rule.specs.declared.views.View.{View}

-- the twin, the table and the number of the writer's seat, and what the writer knows
pub record Locked (D : Type 0) : Type 0 where
  pub twin : Seen D
  pub table_id : TableId
  pub id : ℕ
  pub view : View

-- the core's seat is of this table
abbrev pub IsCoreOf : {D Object Call Query Reply Answer : Type 0} → Shared Object Call Query Reply Answer → Locked D → Type 0
IsCoreOf shared c = (c.table_id ≡ shared.table.shared.table_id) × (c.view.base ≡ opened_with shared)

-- What holds of the twin and the writer's view.
pub record IsAtRest {D S : Type 0} (shown : ShownDevice D) (Contents : ℕ → List ℕ → S → ℕ → Type 0) (step : ℕ → S → ℕ → List ℕ → Option (S × List ℕ)) (twin : Seen D) (view : View) : Type 0 where
  pub order_is : twin.order ≡ view.base.order
  pub order_fits : IsOrder twin.order
  -- Readers are sent to back, nobody reads main, and both sides are the same and stand for the published history.
  pub side_is : (plan_of view).side ≡ 1
  pub settled : Settled view.base (plan_of view)
  pub same : (plan_of view).main ≡ (plan_of view).back
  pub start : S
  pub count : ℕ
  pub opening : Contents view.base.order view.base.image start count
  pub held : Held Contents step view.base start count (plan_of view).main (plan_of view).history
  -- That is also the committed image, and what a stop leaves holds that history, or, in doubt, that with the batch in doubt.
  pub rests : Rests twin.phase
  pub committed_is : IsTrue shown.tells_images → committed shown twin ≡ (plan_of view).main
  pub images : IsTrue shown.tells_images → (i : List ℕ) → shown.leaves twin.device i → ImageAt Contents step view.base start count twin.phase (plan_of view) i
  -- A repair is needed only where the last call failed.
  pub failed : NeedsRepair twin.phase → IsTrue (shown.failing twin.device)
  -- Each call that was found is answered, and the device's count of faults is not below the records'.
  pub answered : Each (λ _ f. f.answered ≡ true) (plan_of view).requests
  pub counts : faults_after view.base.faults (records_of (plan_of view)) ≤ shown.faults twin.device

-- nothing was added to the log since it was cleared
abbrev pub IsClear : Logged → Type 0
IsClear log = (log.ranges ≡ []) × (log.added ≡ 0)

-- The log is clear, and has room for so many stores of each caller.
pub record IsReady (stores callers : ℕ) (log : Logged) : Type 0 where
  pub clear : IsClear log
  pub room : stores * callers ≤ log.room
