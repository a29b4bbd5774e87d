-- What is seen of a heap that is in use.
use Rattle.std.specs.Prelude.{◌≡◌, ℕ, ◌≤◌, List, Result, Ok, Err, slice_index}
use Rattle.rom_model.specs.Faults.{counted}
use Rattle.rom_steady.specs.Rule.{Stage, age, committed_at}
use Rattle.rom_steady.specs.declared.names.NameWords.{NameWords}
use Rattle.rom_steady.specs.declared.steady.Unsteady.{Unsteady}
use Rattle.rom_steady.specs.declared.steady.Unsteady.TheVariants.{NoHeap, Busy, OutOfMemory, Device}

-- these are the words 4 to 7
pub record AreNameWords (words : List ℕ) (names : NameWords) : Type 0 where
  pub high : names.high ≡ slice_index words 4
  pub low : names.low ≡ slice_index words 5
  pub epoch : names.epoch ≡ slice_index words 6
  pub since : names.since ≡ slice_index words 7

module _ (order : ℕ) (stages : ℕ → Stage) (words : ℕ → List ℕ) (first last : ℕ) where
  -- At one moment from the first to the last, this was the region that was committed, and these were the words 4 to 7.
  pub record WasWhole (image : List ℕ) (names : NameWords) : Type 0 where
    pub moment : ℕ
    pub since : first ≤ moment
    pub until : moment ≤ last
    pub region : image ≡ committed_at order stages words moment
    pub names_are : AreNameWords (words moment) names

  -- At one of these moments what was committed was no older than this.
  pub record CommittedNoOlder (old : ℕ) : Type 0 where
    pub moment : ℕ
    pub since : first ≤ moment
    pub until : moment ≤ last
    pub young : age (committed_at order stages words moment) ≤ old

  -- at each of these moments this region was committed
  abbrev pub CommittedStood : List ℕ → Type 0
  CommittedStood region = (t : ℕ) → first ≤ t → t ≤ last → committed_at order stages words t ≡ region

-- the device is told exactly where a call of it failed
abbrev pub IsFaultOf : {T : Type 0} → Result T Unsteady → ℕ → ℕ → Type 0
IsFaultOf (Ok read) old new = new ≡ old
IsFaultOf (Err Device) old new = new ≡ counted old
IsFaultOf (Err NoHeap) old new = new ≡ old
IsFaultOf (Err Busy) old new = new ≡ old
IsFaultOf (Err OutOfMemory) old new = new ≡ old
