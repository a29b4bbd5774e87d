use Rattle.std.proofs.Common.{◌≡◌, map, take}
use Rattle.rom_combine.specs.Answering.{refused}
use Rattle.rom_combine.proofs.answering.refuse.Given as goal

-- the first calls have it
abbrev pub invariant-loop-i : goal.invariant-loop-i
invariant-loop-i l = l.answers.items ≡ map (refused l.code) (take l.i l.found)
