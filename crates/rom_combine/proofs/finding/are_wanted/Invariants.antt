use Rattle.std.proofs.Common.{◌≡◌, take}
use Rattle.rom_combine.specs.Wanted.{posted_from}
use Rattle.rom_combine.proofs.finding.are_wanted.Given as goal

-- the first ones are
abbrev pub invariant-loop-i : goal.invariant-loop-i
invariant-loop-i l = take l.i l.found ≡ posted_from 1 (take l.i l.wanted)
