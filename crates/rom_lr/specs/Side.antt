-- A side as the word `side` has it.
use Rattle.std.specs.Prelude.{ℕ}
use Rattle.rom_lr.specs.declared.side.Side.{Side}
use Rattle.rom_lr.specs.declared.side.Side.TheVariants.{Back, Main}

-- what the word `side` is where it names this side
abbrev pub side_number : Side → ℕ
side_number Main = 0
side_number Back = 1

-- the other of the two sides
abbrev pub other_side : Side → Side
other_side Main = Back
other_side Back = Main
