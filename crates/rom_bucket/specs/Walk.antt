-- The chain of a bucket, and the place of a key in it.
use Rattle.std.specs.Prelude.{◌≡◌, ℕ, ◌+◌, ◌*◌, ◌^◌, ◌<◌, ◌≤◌, List, [], ◌∷◌, ◌++◌, length, slice_index}
use Rattle.rom_model.specs.Space.{ShownSpace, Looks}
use Rattle.rom_model.specs.Blocks.{block_of}
use Rattle.rom_model.specs.Chains.{times, Chain, each_word}
use Rattle.rom_model.specs.Links.{link_after, first_of}
use Rattle.rom_model.specs.Region.{bucket_of}
use Rattle.rom_bucket.specs.declared.walk.Place.{Place}

-- the word of the bucket table that links to a bucket's first node
abbrev pub head_of : ℕ → ℕ → ℕ
head_of n i = block_of n 0 + i

-- the bucket's nodes are these blocks
abbrev pub IsBucket : ℕ → List ℕ → ℕ → List ℕ → Type 0
IsBucket n words i blocks = Chain n words (head_of n i) 2 blocks

-- some blocks of the region, and no more than it has, are the bucket's nodes
pub record HoldsBucket (n i : ℕ) (words : List ℕ) : Type 0 where
  pub blocks : List ℕ
  pub are : IsBucket n words i blocks
  pub within : (b : ℕ) → 0 < times b blocks → b < 2 ^ n
  pub few : length blocks ≤ 2 ^ n

-- the first of the keys, where there is one, is this key
abbrev pub StartsWithKey : ℕ → List ℕ → Type 0
StartsWithKey key [] = Unit {0}
StartsWithKey key (x ∷ xs) = x ≡ key

-- a way along the chain of these blocks, which passed none with the key and came to that link and that node
pub record HasWalkedBucket (n : ℕ) (words blocks : List ℕ) (key link node : ℕ) : Type 0 where
  pub front : List ℕ
  pub back : List ℕ
  pub blocks_are : blocks ≡ front ++ back
  pub passed : times key (each_word n words 0 front) ≡ 0
  pub link_is : link ≡ link_after n (head_of n (bucket_of n key)) 2 front
  pub node_is : node ≡ first_of n back

-- it stopped at the first node that has the key, or at the chain's end
pub record IsPlaceInBucket (n : ℕ) (words blocks : List ℕ) (key : ℕ) (place : Place) : Type 0 where
  pub walked : HasWalkedBucket n words blocks key place.link place.node
  pub stops : StartsWithKey key (each_word n words 0 walked.back)

-- The place of the key in whatever blocks are its bucket's nodes. The first link took one load, and each node that was passed two; the node that has the key took one more.
pub record Finds {M : Type 0} (shown : ShownSpace M) (n key : ℕ) (place : Place) (old new : M) : Type 0 where
  pub is : (blocks : List ℕ) → IsBucket n (shown.image old) (bucket_of n key) blocks → IsPlaceInBucket n (shown.image old) blocks key place
  pub looks : (blocks : List ℕ) → IsBucket n (shown.image old) (bucket_of n key) blocks → Looks shown (1 + 2 * length blocks) old new
  pub found : (front : List ℕ) (block : ℕ) (back : List ℕ) → IsBucket n (shown.image old) (bucket_of n key) (front ++ block ∷ back)
      → slice_index (shown.image old) (block_of n block + 0) ≡ key → Looks shown (2 + 2 * length front) old new
