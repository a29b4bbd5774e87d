-- What a contract sees of a log.
use Rattle.std.specs.Prelude.{ℕ, List}
use Rattle.rom_ranges.specs.declared.range.Range.{Range}

-- the ranges in rising order, how often an offset was added since the log was cleared (as long as that is within the room), and how many ranges there is room for
pub record Logged : Type 0 where
  pub ranges : List Range
  pub added : ℕ
  pub room : ℕ
