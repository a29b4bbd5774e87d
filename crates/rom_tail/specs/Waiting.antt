-- The bytes of a stream that wait.
use Rattle.std.specs.Prelude.{ℕ, List, drop, take}
use Rattle.rom_tail.specs.declared.intake.Intake.{Intake}

-- those that were read and are not taken yet
abbrev pub waits_in : Intake → List ℕ
waits_in i = drop i.start (take i.end i.block)
