-- The region that counts and an image of it, and one region by itself.
use Rattle.std.specs.Prelude.{◌≡◌, ◌⊎◌, ◌≤◌, ℕ, List, length, Err}
use Rattle.rom_model.specs.Blocks.{region_len}
use Rattle.rom_model.specs.declared.unfit.Unfit.{Unfit}
use Rattle.rom_header.specs.Headers.{IsHeaderAnswer}
use Rattle.rom_header.specs.Layout.{MAIN, back_at, back_of, main_of, words_needed}
use Rattle.rom_header.specs.Regions.{HasOrder, IsCounted}
use Rattle.rom_header.specs.declared.header.HeaderRefused.TheVariants as header
use Rattle.rom_open.specs.Refusals.{IsUnfit, named_order}
use Rattle.rom_open.specs.declared.reasons.Why.{Why}
use Rattle.rom_open.specs.declared.reasons.Why.TheVariants.{NotAHeap, BadVersion, BadOrder, BadState, TooSmall, Twins, OldRegion, NewRegion, Malformed, Device, OutOfMemory}
use Rattle.rom_open.specs.declared.view.alone.Region.{Region}
use Rattle.rom_open.specs.declared.view.alone.Region.TheVariants.{Main, Back}

-- Some region counts in these words, and an image of a region's length is one that does.
pub record HasCounted (order : ℕ) (words image : List ℕ) : Type 0 where
  pub some : (region : List ℕ) × IsCounted order words region
  pub kept : length image ≡ region_len order → IsCounted order words image

-- the device failed
abbrev pub IsFault : Why → Type 0
IsFault why = why ≡ Device

-- where the region of this name begins, and its words
abbrev pub begins : Region → ℕ → ℕ
begins Main order = MAIN
begins Back order = back_at order

-- its words
abbrev pub region_of : Region → ℕ → List ℕ → List ℕ
region_of Main order words = main_of order words
region_of Back order words = back_of order words

-- A header names this order, and there are words for a heap of it. Its state may be any word.
pub record HasHeader (order : ℕ) (words : List ℕ) : Type 0 where
  pub header : HasOrder words order
  pub long : words_needed order ≤ length words

-- In a heap of this order, this is the region of this name.
pub record IsNamedRegion (name : Region) (order : ℕ) (words region : List ℕ) : Type 0 where
  pub heap : HasHeader order words
  pub is : region_of name order words ≡ region

-- In a heap of this order, the region of this name stands for this state and this count of an object, whatever the heap's state is and its other region.
pub record HoldsAlone {S : Type 0} (Contents : ℕ → List ℕ → S → ℕ → Type 0) (name : Region) (order : ℕ) (words : List ℕ) (state : S) (count : ℕ) : Type 0 where
  pub region : List ℕ
  pub named : IsNamedRegion name order words region
  pub contents : Contents order region state count

-- The words are refused by the header, as at an opening; but its state is none of the reasons. A device that fails may answer so in place of any.
abbrev pub IsHeaderless : List ℕ → Why → Type 0
IsHeaderless words NotAHeap = IsHeaderAnswer words (Err header.NotAHeap)
IsHeaderless words (BadVersion version) = IsHeaderAnswer words (Err (header.BadVersion version))
IsHeaderless words (BadOrder order) = IsHeaderAnswer words (Err (header.BadOrder order))
IsHeaderless words (TooSmall need have) = IsHeaderAnswer words (Err (header.TooSmall need have))
IsHeaderless words Device = Unit {0}
IsHeaderless words (BadState state) = ⊥
IsHeaderless words (Twins offset main back) = ⊥
IsHeaderless words OldRegion = ⊥
IsHeaderless words NewRegion = ⊥
IsHeaderless words (Malformed offset rule found) = ⊥
IsHeaderless words OutOfMemory = ⊥

-- The refusal of the region of this name in these words. The header is refused; or else it is accepted, and that region by itself is refused.
abbrev pub IsRefusalOf : {S : Type 0} → (ℕ → List ℕ → S → ℕ → Type 0) → (ℕ → List ℕ → Unfit → Type 0) → Region → List ℕ → Why → Type 0
IsRefusalOf Contents Rejects name words why =
    IsHeaderless words why ⊎ ((region : List ℕ) × IsNamedRegion name (named_order words) words region × IsUnfit Contents Rejects (named_order words) region why)
