-- The words that a change of a bucket's chain leaves.
use Rattle.std.specs.Prelude.{◌≡◌, ◌≢◌, ◌⊎◌, ℕ, ◌+◌, ◌-◌, ◌<◌, ◌≤◌, List, length, slice_index}
use Rattle.rom_model.specs.Region.{bucket_of}
use Rattle.rom_bucket.specs.Walk.{head_of}
use Rattle.rom_bucket.specs.declared.walk.Place.{Place}
use Rattle.rom_bucket.specs.declared.node.Node.{Node}

-- the place before the first node of a key's bucket
abbrev pub first_place : ℕ → ℕ → List ℕ → Place
first_place n key words = let head = head_of n (bucket_of n key) in record { link = head; node = slice_index words head }

-- The node begins there and stands at that place: the place's link leads to it, and its own to the node
-- that the place told. The word at the offset `size` counts one key more, and no other word differs.
pub record IsNodeLinked (size : ℕ) (place : Place) (at : ℕ) (node : Node) (old new : List ℕ) : Type 0 where
  pub as_long : length new ≡ length old
  pub key_is : slice_index new at ≡ node.key
  pub second_is : slice_index new (at + 1) ≡ node.second
  pub next : slice_index new (at + 2) ≡ place.node
  pub last_is : slice_index new (at + 3) ≡ node.last
  pub link : slice_index new place.link ≡ at
  pub len : slice_index new size ≡ slice_index old size + 1
  pub others : (k : ℕ) → (k < at) ⊎ (at + 4 ≤ k) → k ≢ place.link → k ≢ size → slice_index new k ≡ slice_index old k

-- The link leads to the node behind. The word at the offset `size` counts one key fewer, and no other word
-- differs.
pub record IsNodeUnlinked (size : ℕ) (place : Place) (old new : List ℕ) : Type 0 where
  pub as_long : length new ≡ length old
  pub link : slice_index new place.link ≡ slice_index old (place.node + 2)
  pub len : slice_index new size ≡ slice_index old size - 1
  pub others : (k : ℕ) → k ≢ place.link → k ≢ size → slice_index new k ≡ slice_index old k
