-- The header of a heap, and the region that counts.
use Rattle.std.specs.Prelude.{◌≡◌, ◌⊎◌, ℕ, ◌≤◌, List, length, slice_index}
use Rattle.rom_model.specs.Blocks.{IsOrder}
use Rattle.rom_header.specs.Layout.{words_needed, main_of, back_of, MAGIC, STATE}

-- The first words of a heap, up to its order, which is one that there is.
pub record HasOrder (words : List ℕ) (order : ℕ) : Type 0 where
  pub magic : slice_index words 0 ≡ MAGIC
  pub version : slice_index words 1 ≡ 1
  pub order_is : slice_index words 2 ≡ order
  pub fits : IsOrder order

-- The words are those of a device with a heap of this order: no test of the header refuses them.
pub record IsHeap (order : ℕ) (words : List ℕ) : Type 0 where
  pub header : HasOrder words order
  pub long : words_needed order ≤ length words
  pub state : slice_index words STATE ≤ 2

-- The state says which region counts: both where it is 0, IDLE, and they are the same; back where it is 1, MUTATING; main where it is 2, COPYING.
abbrev pub IsCounted : ℕ → List ℕ → List ℕ → Type 0
IsCounted order words region =
    ((slice_index words STATE ≡ 0) × (main_of order words ≡ region) × (back_of order words ≡ region))
    ⊎ (((slice_index words STATE ≡ 1) × (back_of order words ≡ region)) ⊎ ((slice_index words STATE ≡ 2) × (main_of order words ≡ region)))

-- In a heap of this order, this region counts. No region counts where words are no heap, nor under IDLE where
-- the two regions differ. So this is a relation, and not a function that may give none.
pub record IsCurrentRegion (order : ℕ) (words region : List ℕ) : Type 0 where
  pub heap : IsHeap order words
  pub counts : IsCounted order words region

-- Both are heaps of one order in which the same region counts.
pub record SameRegion (words image : List ℕ) : Type 0 where
  pub order : ℕ
  pub region : List ℕ
  pub words_are : IsCurrentRegion order words region
  pub image_is : IsCurrentRegion order image region
