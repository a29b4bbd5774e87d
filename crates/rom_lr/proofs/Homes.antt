-- Where a seat's indicators stand.
use Rattle.std.proofs.Common.{◌≡◌, ℕ, ◌+◌, ◌<◌, arith}
use Rattle.rom_rule.specs.Places.{indicator_at, indicator_of}

-- that of a version, counted from the first
pub from_home : (number version home : ℕ) → home ≡ indicator_at (indicator_of number 0) → version < 2 → home + version ≡ indicator_at (indicator_of number version)
from_home number version home is low = omega (arith, is, low)
