use Rattle.std.proofs.Common.{rules, arith, refl, ◌∙◌}
use Rattle.rom_blob_region.proofs.Carried.{from_zero, all_zeros, bytes_same}
use Rattle.rom_blob_region.proofs.bytes.chunk.Chunk.load.Goals as goal

pub loop-i-init : goal.loop-i-init
loop-i-init g c = record {
  long = refl;
  small = λ j. omega (arith, all_zeros 32 j);
  same = λ j lt. absurd (omega (arith, lt));
  behind = λ j ge. all_zeros 32 j;
  looks = search rules;
}

pub returns-clause-bytes : goal.returns-clause-bytes
returns-clause-bytes g c = bytes_same c.loop-i.words (g.M.Look.shown.image c.args.space.now) 0 c.args.at c.args.len (λ j lt. from_zero c.loop-i.words j ∙ c.loop-i.invariant.same j (omega (arith, lt)))
