-- One offset more.
use Rattle.std.specs.Prelude.{◌≡◌, ◌⊎◌, ◌↔◌, ℕ, ◌+◌, ◌<◌, ◌≤◌, List, length}
use Rattle.rom_ranges.specs.Ranges.{AreApart, AreWithin, BeginPast, IsHeld, held_count}
use Rattle.rom_ranges.specs.declared.range.Range.{Range}

-- The second ranges hold what the first do, and the offset, and no other. They are apart, there is at most one more of them, and they hold at most one offset more. They do not begin earlier, nor end later, than these ranges and the offset do.
pub record AddsOffset (at : ℕ) (old new : List Range) : Type 0 where
  pub held : (k : ℕ) → IsHeld new k ↔ (IsHeld old k ⊎ (k ≡ at))
  pub apart : AreApart new
  pub within : (len : ℕ) → at < len → AreWithin len old → AreWithin len new
  pub longer : length new ≤ length old + 1
  pub count : held_count new ≤ held_count old + 1
  pub past : (e : ℕ) → e < at → BeginPast e old → BeginPast e new
