-- A whole heap at rest, as words.
use Rattle.std.specs.Prelude.{ℕ, List, ◌∷◌, ◌++◌}
use Rattle.rom_header.specs.Layout.{MAGIC}
use Rattle.rom_header.specs.Regions.{IsCurrentRegion}
use Rattle.rom_steady.specs.Rule.{Stage}
use Rattle.rom_steady.specs.Seen.{AreNameWords, WasWhole}
use Rattle.rom_steady.specs.declared.names.NameWords.{NameWords}

-- the words of a heap of this order: header, IDLE, the words of the name, and this image in both regions
abbrev pub heap_words : ℕ → NameWords → List ℕ → List ℕ
heap_words order names image = MAGIC ∷ 1 ∷ order ∷ 0 ∷ names.high ∷ names.low ∷ names.epoch ∷ names.since ∷ image ++ image

-- In these words this region counts, and these are the words of the name.
pub record HoldsWhole (order : ℕ) (names : NameWords) (image words : List ℕ) : Type 0 where
  pub current : IsCurrentRegion order words image
  pub names_are : AreNameWords words names

-- These are the words of a heap whose region was the one that was committed at one moment from the first to the last, with the words of the name that stood there then.
pub record IsOneMoment (order : ℕ) (stages : ℕ → Stage) (words : ℕ → List ℕ) (first last : ℕ) (taken : List ℕ) : Type 0 where
  pub image : List ℕ
  pub names : NameWords
  pub was : WasWhole order stages words first last image names
  pub holds : HoldsWhole order names image taken
