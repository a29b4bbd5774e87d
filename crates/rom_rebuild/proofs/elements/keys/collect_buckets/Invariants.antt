use Rattle.std.proofs.Common.{◌≡◌, ℕ}
use Rattle.rom_model.specs.Chains.{each_word}
use Rattle.rom_model.specs.Region.{Chains, IsRegion, all_of}
use Rattle.rom_model.specs.State.{State}
use Rattle.rom_text.specs.Phrases.{NumbersFit}
use Rattle.rom_rebuild.proofs.elements.keys.collect_buckets.Given as goal

-- the keys of the buckets so far
abbrev pub invariant-loop-number : goal.invariant-loop-number
invariant-loop-number l = record {
  far : (p : Chains) (s : State) (k : ℕ) → IsRegion l.order l.words p s k → l.into.items ≡ each_word l.order l.words 0 (all_of p.bucket l.number);
  fit : NumbersFit l.into.items;
}
