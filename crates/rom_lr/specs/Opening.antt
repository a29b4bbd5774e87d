-- What the opening leaves.
use Rattle.std.specs.Prelude.{◌≡◌, ℕ, ◌+◌, List, Some, slice_get}
use Rattle.rom_lr.specs.Seats.{IsSeatOf, opened_with, view}
use Rattle.rom_lr.specs.declared.seats.Seat.{Seat}
use Rattle.rom_lr.specs.declared.shared.Shared.{Shared}
use Rattle.rom_rule.specs.Views.{fresh_view, opening_plan, opening_view}
use Rattle.rom_rule.specs.declared.views.Base.{Base}
use Rattle.rom_rule.specs.declared.views.View.{View}

-- The writer's view once so many callers have their seats, each in one step: else it is as at the opening.
abbrev pub dealt_view : Base → ℕ → View
dealt_view b dealt = record (opening_view b) { plan = Some (record (opening_plan b) { dealt = dealt }); steps = dealt }

module _ {Object Call Query Reply Answer : Type 0} where
  -- the seat of a caller that has seen nothing and done nothing
  abbrev pub IsNewSeat : Shared Object Call Query Reply Answer → ℕ → Seat → Type 0
  IsNewSeat shared number s = IsSeatOf shared s × (s.number ≡ number) × (view s ≡ record (fresh_view (opened_with shared)) { number = number })

  -- the seats of the callers from 1 on, in their order
  abbrev pub AreNewSeats : Shared Object Call Query Reply Answer → List Seat → Type 0
  AreNewSeats shared seats = (i : ℕ) (s : Seat) → slice_get seats i ≡ Some s → IsNewSeat shared (i + 1) s
