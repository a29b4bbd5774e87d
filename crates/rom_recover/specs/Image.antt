-- What an image in memory keeps of the words that recovery reads.
use Rattle.std.specs.Prelude.{◌≡◌, ◌⊎◌, ℕ, ◌+◌, ◌<◌, List, length, slice_index}
use Rattle.rom_model.specs.Blocks.{region_len}
use Rattle.rom_header.specs.Layout.{main_of}

-- an image has so many words, or none
abbrev pub IsEmptyOrFull : ℕ → List ℕ → Type 0
IsEmptyOrFull len image = (length image ≡ 0) ⊎ (length image ≡ len)

-- the words that an image has, up to so many, are those from that place on
abbrev pub IsReadFrom : ℕ → ℕ → List ℕ → List ℕ → Type 0
IsReadFrom at count words image = (k : ℕ) → k < count → k < length image → slice_index image k ≡ slice_index words (at + k)

-- an image of a region's length is main
abbrev pub KeepsMain : ℕ → List ℕ → List ℕ → Type 0
KeepsMain order words image = length image ≡ region_len order → image ≡ main_of order words

-- A piece stands from that place of an image on, as far as the image has words, and the words before it are as they were.
pub record PieceKept (from : ℕ) (piece old new : List ℕ) : Type 0 where
  pub as_long : length new ≡ length old
  pub before : (k : ℕ) → k < from → slice_index new k ≡ slice_index old k
  pub there : (k : ℕ) → k < length piece → from + k < length new → slice_index new (from + k) ≡ slice_index piece k
