-- What a copy of words leaves.
use Rattle.std.specs.Prelude.{◌≡◌, ◌⊎◌, ℕ, ◌+◌, ◌<◌, List, slice_index}
use Rattle.rom_model.specs.Space.{ChangesOnly}

-- so many words from the one place stand at the other
abbrev pub Copied : ℕ → ℕ → ℕ → List ℕ → List ℕ → Type 0
Copied from to len old new = (k : ℕ) → k < len → slice_index new (to + k) ≡ slice_index old (from + k)

-- Only so many words from that place on differ, and each is as it was or the word of the source that is to stand there.
pub record CopiesSome (source : List ℕ) (from to len : ℕ) (old new : List ℕ) : Type 0 where
  pub only : ChangesOnly to len old new
  pub either : (k : ℕ) → k < len → (slice_index new (to + k) ≡ slice_index old (to + k)) ⊎ (slice_index new (to + k) ≡ slice_index source (from + k))
