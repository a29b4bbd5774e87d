-- The words as they are when all before-images are put back.
use Rattle.std.specs.Prelude.{ℕ, ◌<◌, List, [], ◌∷◌, length, slice_index_or, slice_set}
use Rattle.rom_undo.specs.declared.before_image.BeforeImage.{BeforeImage}

-- What stood where words were stored over is put back, the last first.
abbrev pub rolled_back : List BeforeImage → List ℕ → List ℕ
rolled_back [] image = image
rolled_back (before ∷ later) image = slice_set (rolled_back later image) before.at before.word

-- each lies within so many words
abbrev pub AreWithin : ℕ → List BeforeImage → Type 0
AreWithin len words = (k : ℕ) (d : BeforeImage) → k < length words → (slice_index_or words k d).at < len
