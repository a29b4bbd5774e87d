-- The laws of the object, which its traits ask for.
use Rattle.std.specs.Prelude.{◌≡◌, ℕ, ◌≤◌, ◌==◌, ◌&&◌, List, length, refl, slice_index}
use Rattle.rom_model.specs.History.{LAST_COUNT}
use Rattle.rom_model.specs.State.{State}
use Rattle.rom_model.specs.Blocks.{region_len}
use Rattle.rom_model.specs.Region.{Contents, OldContents}
use Rattle.rom_model.proofs.Contents as contents
use Rattle.rom_heap.specs.Answers.{is_new}

-- a region stands for one state and one count
pub one_contents : (n : ℕ) (words : List ℕ) (s t : State) (j k : ℕ) → Contents n words s j → Contents n words t k → (s ≡ t) × (j ≡ k)
one_contents n words s t j k one two = contents.one_contents one two

-- A well-formed region has its order's length. Its word 0, the kind, is 1. Its word 2 is the count, which is
-- at most LAST_COUNT.
pub contents_within : (n : ℕ) (words : List ℕ) (s : State) (k : ℕ) → Contents n words s k → (length words ≡ region_len n) × (slice_index words 2 ≡ k) × (k ≤ LAST_COUNT) × (slice_index words 0 ≡ 1)
contents_within n words s k is = (is.1.shape.as_long, is.1.shape.root.count_is, is.1.shape.root.count_fits, is.1.shape.root.kind)

-- a region of version 1 stands for one state and one count
pub one_earlier : (n : ℕ) (words : List ℕ) (s t : State) (j k : ℕ) → OldContents n words s j → OldContents n words t k → (s ≡ t) × (j ≡ k)
one_earlier n words s t j k one two = contents.one_old one two

-- The same holds of a region of version 1, and its word 1, the version, is 1.
pub earlier_within : (n : ℕ) (words : List ℕ) (s : State) (k : ℕ) → OldContents n words s k → (length words ≡ region_len n) × (slice_index words 2 ≡ k) × (k ≤ LAST_COUNT) × (slice_index words 0 ≡ 1) × (slice_index words 1 ≡ 1)
earlier_within n words s k is = (is.1.shape.as_long, is.1.shape.root.count_is, is.1.shape.root.count_fits, is.1.shape.root.kind, is.1.version.version)

-- words say that they are of version 2 where word 0 is 1 and word 1 is 2
pub next_is : (words : List ℕ) → is_new words ≡ ((slice_index words 0 == 1) && (slice_index words 1 == 2))
next_is words = refl
