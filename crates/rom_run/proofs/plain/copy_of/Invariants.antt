use Rattle.std.proofs.Common.{◌≡◌, take}
use Rattle.rom_run.proofs.plain.copy_of.Given as goal

-- the names so far are copied
abbrev pub invariant-loop-name : goal.invariant-loop-name
invariant-loop-name l = l.copy ≡ take l.name-index l.names
