-- What the writer's scan asks for and leaves.
use Rattle.std.specs.Prelude.{◌≡◌, ◌≢◌, ℕ, List, ◌==◌, if◌then◌else◌}
use Rattle.rom_lr.specs.Seats.{plan}
use Rattle.rom_lr.specs.Writing.{SetsPlan}
use Rattle.rom_lr.specs.declared.seats.WriterSeat.{WriterSeat}
use Rattle.rom_rule.specs.CallKinds.{CanBegin, CanScan, altered, beginning}
use Rattle.rom_rule.specs.Calls.{packed}
use Rattle.rom_rule.specs.declared.views.Plan.{Plan}
use Rattle.rom_rule.specs.declared.views.Request.{Request}

-- It is the first caller, and each call found before is answered; or it is the caller after the one scanned last, and the pass has no record yet.
abbrev pub MayScan : Plan → ℕ → Type 0
MayScan p caller = (caller ≡ 1 → CanBegin p) × (caller ≢ 1 → CanScan p caller)

-- the plan before that caller's turn is loaded: with the first caller a new pass begins
abbrev pub scanned_from : ℕ → Plan → Plan
scanned_from caller p = if caller == 1 then beginning p else p

-- a request of which these words were loaded
abbrev pub with_words : List ℕ → Request → Request
with_words words f = record f { words = words }

-- All words of this caller's call are loaded, and they are these. Nothing else changes but the number of the writer's steps.
abbrev pub HasLoaded : WriterSeat → WriterSeat → ℕ → List ℕ → Type 0
HasLoaded s t caller words = SetsPlan s t (altered caller (with_words (packed words)) (plan s))
