-- A heap that an earlier program left with words in doubt, and what recovery makes of it.
use Rattle.std.specs.Prelude.{◌≡◌, ◌⊎◌, ℕ, ◌+◌, ◌<◌, ◌≤◌, List, slice_index}
use Rattle.rom_model.specs.Blocks.{region_len}
use Rattle.rom_device.specs.Device.{ShownDevice}
use Rattle.rom_header.specs.Headers.{IsIdle}
use Rattle.rom_header.specs.Layout.{MAIN, STATE, back_at}
use Rattle.rom_header.specs.Regions.{SameRegion}

-- one of so many places from that one on
abbrev pub IsAmong : ℕ → ℕ → ℕ → Type 0
IsAmong at len place = (at ≤ place) × (place < at + len)

-- a place of the region that does not count, by the word of the state: of main under MUTATING, of back under COPYING
abbrev pub IsOfOther : ℕ → ℕ → ℕ → Type 0
IsOfOther order state place = ((state ≡ 1) × IsAmong MAIN (region_len order) place) ⊎ ((state ≡ 2) × IsAmong (back_at order) (region_len order) place)

-- the places that may be in doubt, by the word of the state as it reads: the state itself, and the region that does not count
abbrev pub MayBeInDoubt : ℕ → ℕ → ℕ → Type 0
MayBeInDoubt order state place = (place ≡ STATE) ⊎ IsOfOther order state place

-- So an earlier program left the heap, whatever its syncs told it: only such places are in doubt, and where the state reads IDLE a stop leaves one of the three states.
pub record IsLeftInDoubt {D : Type 0} (shown : ShownDevice D) (order : ℕ) (device : D) : Type 0 where
  pub places : (at : ℕ) → shown.doubted device at → MayBeInDoubt order (slice_index (shown.words device) STATE) at
  pub states : IsIdle (shown.words device) → (i : List ℕ) → shown.leaves device i → slice_index i STATE ≤ 2

-- Only such places are in doubt, and a stop leaves all other words as they read.
pub record IsCertainBut {D : Type 0} (shown : ShownDevice D) (Place : ℕ → Type 0) (device : D) : Type 0 where
  pub places : (at : ℕ) → shown.doubted device at → Place at
  pub images : (i : List ℕ) → shown.leaves device i → (at : ℕ) → (slice_index i at ≡ slice_index (shown.words device) at) ⊎ Place at

-- What a stop leaves once recovery is done: the region that counted counts, and each word is as it reads, but for the state where it read IDLE.
pub record IsImageRecovered (old new image : List ℕ) : Type 0 where
  pub same : SameRegion old image
  pub certain : (at : ℕ) → (slice_index image at ≡ slice_index new at) ⊎ ((at ≡ STATE) × IsIdle old)
