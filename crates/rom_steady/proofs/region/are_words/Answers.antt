use Rattle.std.proofs.Common.{rules, arith}
use Rattle.rom_steady.proofs.Reading.{later_then, stood_on}
use Rattle.rom_steady.proofs.region.are_words.Goals as goal

pub loop-from-preserved : goal.loop-from-preserved
loop-from-preserved g c = record {
  within = omega arith;
  found = λ told. stood_on g.W.Watched.shown _ _ _ c.args.at c.loop-from.from c.min-count.result c.args.expected.now (omega arith) c.loop-from.invariant.later c.is_piece.ensures.later (c.loop-from.invariant.found told)
      (c.in_ok-is_piece.ensures.found told c.if-not-branch.false);
  later = later_then g.W.Watched.shown _ _ _ c.loop-from.invariant.later c.is_piece.ensures.later;
  faults = search rules;
}
