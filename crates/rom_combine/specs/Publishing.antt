-- What publishing a batch begins from.
use Rattle.std.specs.Prelude.{◌≡◌, ℕ, ◌+◌, ◌<◌, ◌≤◌, List, [], map, length, Option, IsTrue}
use Rattle.rom_model.specs.Blocks.{IsOrder}
use Rattle.rom_model.specs.History.{LAST_COUNT}
use Rattle.rom_model.specs.Passes.{faults_after}
use Rattle.rom_device.specs.Device.{ShownDevice}
use Rattle.rom_twin.specs.Seen.{Rests, Seen, committed}
use Rattle.rom_lr.specs.Seats.{plan, writer_view}
use Rattle.rom_lr.specs.Writing.{NobodyReads}
use Rattle.rom_lr.specs.declared.seats.WriterSeat.{WriterSeat}
use Rattle.rom_lr.specs.declared.side.Side.TheVariants.{Main}
use Rattle.rom_ranges.specs.Log.{Logged}
use Rattle.rom_rule.specs.Calls.{AreScanned, caller_in}
use Rattle.rom_rule.specs.Readers.{Held}
use Rattle.rom_rule.specs.Records.{IsCall}
use Rattle.rom_rule.specs.Views.{Each}
use Rattle.rom_combine.specs.AtRest.{IsClear}
use Rattle.rom_combine.specs.Scanning.{IsUnanswered}

-- What holds as a pass publishes what it found. `before` is the device's count of faults then, and `place` the count of updates.
pub record IsReadyToPublish {D S : Type 0} (shown : ShownDevice D) (Contents : ℕ → List ℕ → S → ℕ → Type 0) (step : ℕ → S → ℕ → List ℕ → Option (S × List ℕ)) (twin : Seen D) (seat : WriterSeat) (log : Logged) (before place : ℕ) : Type 0 where
  -- The table and the device are at rest, and the log is clear.
  pub unread : NobodyReads seat Main
  pub order_is : twin.order ≡ (writer_view seat).base.order
  pub order_fits : IsOrder twin.order
  pub same : (plan seat).main ≡ (plan seat).back
  pub rests : Rests twin.phase
  pub committed_is : IsTrue shown.tells_images → committed shown twin ≡ (plan seat).main
  pub held : (s : S) × (n : ℕ) × Contents (writer_view seat).base.order (writer_view seat).base.image s n
      × Held Contents step (writer_view seat).base s n (plan seat).main (plan seat).history
      × (place ≡ n + length (plan seat).history)
  pub below : place < LAST_COUNT
  pub clear : IsClear log
  -- The found calls stand in rising order of callers, and none is answered or recorded.
  pub rising : AreScanned 0 (writer_view seat).base.callers (map caller_in (plan seat).requests)
  pub fresh : Each (λ _. IsUnanswered (IsCall step (writer_view seat).base)) (plan seat).requests
  pub unmade : (plan seat).mine ≡ []
  pub before_is : before ≡ shown.faults twin.device
  pub counts : faults_after (writer_view seat).base.faults (plan seat).records ≤ before
