use Rattle.std.proofs.Common.{◌≡◌, ◌+◌, ◌-◌}
use Rattle.rom_model.specs.Tests.{checked, are_zero}
use Rattle.rom_block.proofs.checks.check_zeros.Given as goal

abbrev pub invariant-loop-at : goal.invariant-loop-at
invariant-loop-at l = checked (are_zero l.region l.offset l.many l.rule) ≡ checked (are_zero l.region l.at (l.offset + l.many - l.at) l.rule)
