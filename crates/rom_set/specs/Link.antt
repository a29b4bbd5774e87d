-- Putting a node into the set's chain, and taking one out.
use Rattle.std.specs.Prelude.{◌≡◌, ℕ, ◌+◌, ◌^◌, ◌<◌, false, List, ◌∷◌, ◌++◌, slice_index}
use Rattle.std.specs.FinSet as set
use Rattle.rom_model.specs.Blocks.{block_of}
use Rattle.rom_model.specs.Chains.{times}
use Rattle.rom_model.specs.Region.{IsSet, ChangesPart}
use Rattle.rom_model.specs.Links.{link_after, KeepsTree}
use Rattle.rom_set.specs.Nodes.{HoldsSet}
use Rattle.rom_set.specs.Walk.{IsPlaceInSet}
use Rattle.rom_set.specs.declared.walk.Place.{Place}

-- a set in the words, the place of a key that it has not, and where a block begins that is not in it
pub record MayLink (n key at : ℕ) (place : Place) (words : List ℕ) : Type 0 where
  pub holds : HoldsSet n words
  pub is : IsPlaceInSet n words holds.blocks key place
  pub missing : place.found ≡ false
  pub block : ℕ
  pub here : at ≡ block_of n block
  pub inside : block < 2 ^ n
  pub absent : times block holds.blocks ≡ 0

-- The block stands at that place with the key, and no word differs but the set's and the block's.
pub record IsBlockLinked {n key at : ℕ} {place : Place} {old : List ℕ} (m : MayLink n key at place old) (new : List ℕ) : Type 0 where
  pub holds : slice_index new (block_of n m.block + 0) ≡ key
  pub set : IsSet n new (m.is.walked.front ++ m.block ∷ m.is.walked.back) (set.insert m.holds.members key)
  pub others : ChangesPart n 6 8 (m.is.walked.front ++ m.block ∷ m.is.walked.back) old new
  pub tree : KeepsTree n old new

-- a set in the words, and the place of one of its nodes
pub record MayUnlink (n : ℕ) (place : Place) (words : List ℕ) : Type 0 where
  pub holds : HoldsSet n words
  pub block : ℕ
  pub front : List ℕ
  pub back : List ℕ
  pub blocks_are : holds.blocks ≡ front ++ block ∷ back
  pub link_is : place.link ≡ link_after n 6 1 front
  pub node_is : place.node ≡ block_of n block

-- The block is out of the chain and its key out of the set, and no word differs but the set's. Those of
-- the block stay.
pub record IsBlockUnlinked {n : ℕ} {place : Place} {old : List ℕ} (m : MayUnlink n place old) (new : List ℕ) : Type 0 where
  pub set : IsSet n new (m.front ++ m.back) (set.remove m.holds.members (slice_index old (block_of n m.block + 0)))
  pub kept : (j : ℕ) → j < 4 → slice_index new (block_of n m.block + j) ≡ slice_index old (block_of n m.block + j)
  pub others : ChangesPart n 6 8 m.holds.blocks old new
  pub tree : KeepsTree n old new
