use Rattle.std.proofs.Common.{drop}
use Rattle.rom_combine.specs.Copying.{with_side, words_at}
use Rattle.rom_model.specs.Blocks.{region_len}
use Rattle.rom_lr.specs.Side.{other_side}
use Rattle.rom_rule.specs.Views.{plan_of}
use Rattle.rom_lr.specs.Writing.{SetsPlan}
use Rattle.rom_ranges.specs.Changes.{SameBut}
use Rattle.rom_ranges.specs.Ranges.{AreWithin}
use Rattle.rom_combine.proofs.sides.copy_to.Given as goal

-- the ranges that are left hold where the sides differ
abbrev pub invariant-loop-range : goal.invariant-loop-range
invariant-loop-range g l = let side = l.fn.side in let v = l.fn.seat.token.me.0 in let p = plan_of v in let now = words_at side (plan_of l.seat.token.me.0) in record {
  kept : SetsPlan l.fn.seat l.seat (with_side side now p);
  within : AreWithin (region_len v.base.order) (drop l.range-index l.ranges);
  but : SameBut (drop l.range-index l.ranges) now (words_at (other_side side) p);
}
