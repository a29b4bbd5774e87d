-- What the command `grow` takes, and why it takes nothing.
use Rattle.std.specs.Prelude.{◌≡◌, ℕ, ◌<◌, ◌≤◌, Bool, List, Result, Ok, Err, slice_index}
use Rattle.rom_model.specs.declared.unfit.Unfit.{Unfit}
use Rattle.rom_header.specs.Layout.{back_of}
use Rattle.rom_header.specs.Regions.{IsCurrentRegion}
use Rattle.rom_steady.specs.declared.names.NameWords.{NameWords}
use Rattle.rom_copy.specs.Viewing.{HasTakingFaults, IsUntaken}
use Rattle.rom_copy.specs.Whole.{HoldsWhole}
use Rattle.rom_dump.specs.declared.copy.Taken.{Taken}
use Rattle.rom_dump.specs.declared.grow.Ungrown.{Ungrown}
use Rattle.rom_dump.specs.declared.grow.Ungrown.TheVariants.{Untaken, NotGreater}

-- The words that were taken are a whole heap at rest of this greater order, with the same words of the name. The region of the source that counts, which back holds, too, stands for some state and some count, and the new region stands for what that one stands for. Its count is the one that is told.
pub record IsGrownFrom {S : Type 0} (Contents : ℕ → List ℕ → S → ℕ → Type 0) (Grown : ℕ → List ℕ → ℕ → List ℕ → Type 0) (greater : ℕ) (source : List ℕ) (taken : Taken) : Type 0 where
  pub order : ℕ
  pub image : List ℕ
  pub region : List ℕ
  pub names : NameWords
  pub source_is : HoldsWhole order names image source
  pub back_is : image ≡ back_of order source
  pub stands : (state : S) × (count : ℕ) × Contents order image state count
  pub above : order < greater
  pub grown : Grown order image greater region
  pub copy_is : HoldsWhole greater names region taken.words.items
  pub order_is : taken.order ≡ greater
  pub count_is : taken.count ≡ slice_index region 2

-- why these words are not taken: as a copy is not, or since the heap has this order, which is no less
abbrev pub IsUngrown : {S : Type 0} → (ℕ → List ℕ → S → ℕ → Type 0) → (ℕ → List ℕ → Unfit → Type 0) → ℕ → List ℕ → Ungrown → Type 0
IsUngrown Contents Rejects greater words (Untaken why) = IsUntaken Contents Rejects words why
IsUngrown Contents Rejects greater words (NotGreater have) = (greater ≤ have) × ((image : List ℕ) × IsCurrentRegion have words image)

-- no call follows one that failed, as of a copy
abbrev pub HasGrowingFaults : {T : Type 0} → Result T Ungrown → ℕ → ℕ → Bool → Type 0
HasGrowingFaults (Ok taken) before now failing = now ≡ before
HasGrowingFaults (Err (NotGreater have)) before now failing = now ≡ before
HasGrowingFaults {T} (Err (Untaken why)) before now failing = HasTakingFaults {T = T} (Err why) before now failing
