use Rattle.std.proofs.Common.{◌≡◌, ℕ, ◌++◌, ◌^◌, List}
use Rattle.rom_model.specs.Chains.{each_word}
use Rattle.rom_text.specs.Phrases.{NumbersFit}
use Rattle.rom_bucket.specs.Walk.{IsBucket, head_of}
use Rattle.rom_bucket.proofs.Walking.{Along, left}
use Rattle.rom_blob_carry.proofs.elements.keys.collect_bucket.Given as goal

-- the keys of the nodes that were passed
abbrev pub invariant-loop-node : goal.invariant-loop-node
invariant-loop-node l = record {
  way : (blocks : List ℕ) → IsBucket l.order l.words l.number blocks
      → (x : Along l.order (head_of l.order l.number) l.words blocks l.node) × (l.into.items ≡ l.fn.into.items ++ each_word l.order l.words 0 x.front);
  fit : NumbersFit l.fn.into.items → NumbersFit l.into.items;
}

-- the nodes that are left
abbrev pub decreases-loop-node : goal.decreases-loop-node
decreases-loop-node l = left l.words (2 ^ l.order) l.node
