use Rattle.std.proofs.Common.{◌≡◌, ◌⊎◌, ◌≤◌}
use Rattle.rom_combine.specs.Copying.{with_side, words_at}
use Rattle.rom_lr.specs.Side.{other_side}
use Rattle.rom_rule.specs.Views.{plan_of}
use Rattle.rom_lr.specs.Writing.{SetsPlan}
use Rattle.rom_combine.proofs.Copies.{CopiesUpTo}
use Rattle.rom_combine.proofs.sides.copy_range.Given as goal

-- the first words of the range are copied
abbrev pub invariant-loop-at : goal.invariant-loop-at
invariant-loop-at g l = let side = l.fn.side in let p = plan_of l.fn.seat.token.me.0 in let now = words_at side (plan_of l.seat.token.me.0) in record {
  kept : SetsPlan l.fn.seat l.seat (with_side side now p);
  copied : CopiesUpTo l.fn.range.start l.at (words_at (other_side side) p) (words_at side p) now;
  within : (l.at ≤ l.fn.range.end) ⊎ (l.at ≡ l.fn.range.start);
}
