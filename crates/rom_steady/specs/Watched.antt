-- Words that others change, as who reads them sees them.
use Rattle.std.specs.Prelude.{◌≡◌, ℕ, ◌+◌, ◌<◌, ◌≤◌, Bool, List, Result, Ok, Err, length, slice_index}
use Rattle.rom_model.specs.Faults.{counted}

-- A fixed number of 64-bit words. At each moment they are some words, whoever changes them, and what is read now is of a moment no earlier than any that was read before.
pub record ShownWatched (W : Type 0) : Type 1 where
  -- how many words it has
  pub size : W → ℕ
  -- the words at each moment, where it tells them, and which moment it is
  pub tells : Bool
  pub words : W → ℕ → List ℕ
  pub now : W → ℕ
  -- how many calls of it failed, up to 2 ^ 64 - 1
  pub faults : W → ℕ

module _ {W : Type 0} (shown : ShownWatched W) where
  -- Calls that only read: the moment is no earlier, and what the words are at each moment is no matter of them.
  pub record IsLater (old new : W) : Type 0 where
    pub size : shown.size new ≡ shown.size old
    pub later : shown.now old ≤ shown.now new
    pub words : shown.words new ≡ shown.words old

  -- at some moment within the calls this value stood at this place
  pub record StoodAt (old new : W) (place value : ℕ) : Type 0 where
    pub moment : ℕ
    pub since : shown.now old ≤ moment
    pub until : moment ≤ shown.now new
    pub word : value ≡ slice_index (shown.words new moment) place

  -- so did each of these values, at the places from that one on, each at some moment of its own
  abbrev pub StoodFrom : W → W → ℕ → List ℕ → Type 0
  StoodFrom old new at values = (k : ℕ) → k < length values → StoodAt old new (at + k) (slice_index values k)

-- the count of faults stays where the calls were done, and else it rises by one
abbrev pub HasRisen : {T E : Type 0} → Result T E → ℕ → ℕ → Type 0
HasRisen (Ok done) old new = new ≡ old
HasRisen (Err failed) old new = new ≡ counted old
