use Rattle.rom_lr.specs.Writing.{SetsPlan, plan_after_wait}
use Rattle.rom_rule.specs.Views.{plan_of}
use Rattle.rom_lr.proofs.shared.Shared.wait_for_all.Given as goal

-- the first callers' indicators were loaded as 0
abbrev pub invariant-loop-i : goal.invariant-loop-i
invariant-loop-i g l = SetsPlan l.fn.seat l.seat (plan_after_wait l.fn.version l.i (plan_of l.fn.seat.token.me.0))
