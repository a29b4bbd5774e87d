use Rattle.std.proofs.Common.{◌≤◌, length}
use Rattle.rom_units.proofs.renew.keys_of.Given as goal

abbrev pub invariant-loop-number : goal.invariant-loop-number
invariant-loop-number l = length l.keys.items ≤ l.number
