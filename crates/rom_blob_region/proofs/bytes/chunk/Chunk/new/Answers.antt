use Rattle.std.proofs.Common.{◌+◌, ◌/◌, refl, arith, replicate}
use Rattle.rom_blob_region.proofs.Carried.{all_zeros, no_byte}
use Rattle.rom_blob_region.proofs.bytes.chunk.Chunk.new.Goals as goal

pub invariant_of-result : goal.invariant_of-result
invariant_of-result c = record {
  within = omega arith;
  whole = refl;
  small = λ i. omega (arith, all_zeros 32 i);
  zero_past = λ k ge. no_byte (replicate 32 0) 0 k (all_zeros 32 (0 + k / 8));
}
