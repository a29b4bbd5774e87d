-- How many of a caller's updates were told that the device failed, and how far the device's count of faults rose for them.
use Rattle.std.specs.Prelude.{ℕ, ◌+◌, ◌≤◌, min, List, [], ◌∷◌}
use Rattle.rom_model.specs.Faults.{LAST}
use Rattle.rom_model.specs.declared.call.Updated.{Updated}
use Rattle.rom_model.specs.declared.call.Updated.TheVariants.{Done, Spent, Failed, Doubt}
use Rattle.rom_model.specs.declared.line.LineResult.{LineResult}
use Rattle.rom_model.specs.declared.line.LineResult.TheVariants as outcome

-- a count is greater by so much, or by more, or stands at the last value or above
abbrev pub RoseBy : ℕ → ℕ → ℕ → Type 0
RoseBy k before now = min (before + k) LAST ≤ now

-- 1 where an update was told that the device failed
abbrev pub update_faults : {R : Type 0} → Updated R → ℕ
update_faults (Done reply place) = 0
update_faults Spent = 0
update_faults Failed = 1
update_faults Doubt = 1

-- and of a line
abbrev pub line_faults : {R A : Type 0} → LineResult R A → ℕ
line_faults (outcome.Update updated) = update_faults updated
line_faults outcome.Unread = 0
line_faults (outcome.Read answer front) = 0

-- how many of a caller's lines were
abbrev pub faulted_lines : {R A : Type 0} → List (LineResult R A) → ℕ
faulted_lines [] = 0
faulted_lines (r ∷ results) = line_faults r + faulted_lines results
