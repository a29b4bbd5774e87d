use Rattle.std.proofs.Common.{◌≡◌, ℕ, List}
use Rattle.rom_model.specs.Chains.{each_word}
use Rattle.rom_model.specs.Region.{all_of}
use Rattle.rom_text.specs.Phrases.{NumbersFit}
use Rattle.rom_blob_region.specs.State.{BlobState}
use Rattle.rom_blob_region.specs.Region.{IsBlobs}
use Rattle.rom_blob_carry.proofs.elements.keys.collect_buckets.Given as goal

-- the keys of the buckets so far
abbrev pub invariant-loop-number : goal.invariant-loop-number
invariant-loop-number l = record {
  far : (bucket : ℕ → List ℕ) (s : BlobState) (k : ℕ) → IsBlobs l.order l.words bucket s k → l.into.items ≡ each_word l.order l.words 0 (all_of bucket l.number);
  fit : NumbersFit l.into.items;
}
