-- What the words of a device hold.
use Rattle.std.specs.Prelude.{◌≡◌, ℕ, List}
use Rattle.rom_header.specs.Regions.{IsCurrentRegion}

-- A heap of this order stands there, and the region that counts stands for this state and this count of an object, of which `Contents` says what the words of a region stand for.
-- The definition stands in this crate, since an opening and a batch both speak of it, and neither stands on
-- the other. That words hold at most one order, state and count is `HoldsOne`, a clause of `open_device`.
pub record Holds {S : Type 0} (Contents : ℕ → List ℕ → S → ℕ → Type 0) (order : ℕ) (words : List ℕ) (state : S) (count : ℕ) : Type 0 where
  pub region : List ℕ
  pub current : IsCurrentRegion order words region
  pub contents : Contents order region state count

-- words hold at most one order, one state and one count
abbrev pub HoldsOne : {S : Type 0} → (ℕ → List ℕ → S → ℕ → Type 0) → Type 0
HoldsOne {S} Contents = (words : List ℕ) (m n : ℕ) (s t : S) (j k : ℕ) → Holds Contents m words s j → Holds Contents n words t k → (m ≡ n) × (s ≡ t) × (j ≡ k)
