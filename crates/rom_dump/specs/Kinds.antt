-- The first word of a region, by which its kind is found.
use Rattle.std.specs.Prelude.{◌≡◌, ℕ, ◌<◌, ◌≤◌, ◌==◌, List, length, Option, Some, None, slice_index, if◌then◌else◌}
use Rattle.rom_model.specs.Blocks.{IsOrder}
use Rattle.rom_header.specs.Layout.{MAIN, STATE, back_at, words_needed}
use Rattle.rom_open.specs.Refusals.{named_order}
use Rattle.rom_open.specs.View.{begins}
use Rattle.rom_open.specs.declared.view.alone.Region.{Region}

-- where the region begins that is looked at: the one of this name, or the one that counts in this state
abbrev pub looked_at : Option Region → ℕ → ℕ → ℕ
looked_at (Some name) order state = begins name order
looked_at None order state = if state == 1 then back_at order else MAIN

-- word 2 names an order, and there are words for a heap of it
pub record HasRoomForOrder (words : List ℕ) : Type 0 where
  pub order : IsOrder (named_order words)
  pub long : words_needed (named_order words) ≤ length words

-- the kind that is found: the first word of that region, or none where no order is named for which there are words
abbrev pub IsKindFound : Option Region → List ℕ → Option ℕ → Type 0
IsKindFound from words (Some kind) = HasRoomForOrder words × (kind ≡ slice_index words (looked_at from (named_order words) (slice_index words STATE)))
IsKindFound from words None = HasRoomForOrder words → ⊥
