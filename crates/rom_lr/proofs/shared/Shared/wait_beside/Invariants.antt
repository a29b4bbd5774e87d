use Rattle.rom_lr.specs.Writing.{SetsPlan}
use Rattle.rom_rule.specs.Views.{plan_of}
use Rattle.rom_lr.proofs.shared.Shared.wait_beside.Given as goal

abbrev pub invariant-loop : goal.invariant-loop
invariant-loop g l =
    (goal.iterator-loop g).can_next l.iterator' × (goal.iterator-loop g).is_finite l.iterator' × SetsPlan l.fn.seat l.seat (plan_of l.fn.seat.token.me.0)
