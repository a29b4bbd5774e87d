use Rattle.std.proofs.Common.{◌≡◌, length}
use Rattle.rom_host.proofs.streams.sources_of.Given as goal

-- a source for each name so far
abbrev pub invariant-loop-i : goal.invariant-loop-i
invariant-loop-i l = length l.sources.items ≡ l.i
