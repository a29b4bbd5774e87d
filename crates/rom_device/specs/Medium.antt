-- What calls of a medium do to its words, and what a stop may leave of them.
use Rattle.std.specs.Prelude.{◌≡◌, ℕ, ◌+◌, ◌≤◌, Bool, false, if◌then◌else◌, IsTrue, List, [], length}
use Rattle.std.specs.Bool.{OnTrue}
use Rattle.rom_model.specs.Faults.{counted}
use Rattle.rom_device.specs.Device.{ShownDevice, After, AreRenewed, Does, WritesMany}
use Rattle.rom_device.specs.Laid.{firsts, laid}

-- it has so many words from that place on, as far as it tells
abbrev pub HasPlaces : {M : Type 0} → ShownDevice M → ℕ → ℕ → M → Type 0
HasPlaces shown at count medium = IsTrue shown.tells_words → at + count ≤ length (shown.words medium)

-- So many values are handed over, from that place on.
pub record HandsOver {M : Type 0} (shown : ShownDevice M) (at : ℕ) (value : ℕ → ℕ) (count : ℕ) (old new : M) (done : Bool) : Type 0 where
  -- each word there, and each in what a stop may leave, is as it was or the one of these; nothing else changes
  pub does : Does shown (WritesMany at (firsts value count)) old new
  -- where all were handed over the words read so
  pub written : IsTrue shown.tells_words → OnTrue done (shown.words new ≡ laid at value count (shown.words old))
  -- and none of these is in doubt
  pub renewed : OnTrue done (AreRenewed shown at count new)
  -- None is made certain: what a stop might have left, it may leave still. A device over the medium
  -- promises to forget no image that might have been left. It can do so only where the medium forgets none.
  pub keeps : IsTrue shown.tells_images → (i : List ℕ) → shown.leaves old i → shown.leaves new i
  -- And where all were handed over, that with any of them in their places. Of a file these lower bounds ask
  -- for no more trust. What a stop may leave of it can be taken as widely as they ask.
  pub each : IsTrue shown.tells_images → OnTrue done ((i : List ℕ) → After (WritesMany at (firsts value count)) (shown.leaves old) i → shown.leaves new i)

-- a count of faults stays where a call was done, and else rises by one
abbrev pub Blames : Bool → ℕ → ℕ → Type 0
Blames done before now = now ≡ (if done then before else counted before)

-- what a medium shows that tells nothing but how often it failed
abbrev pub tells_faults : {M : Type 0} → (M → ℕ) → ShownDevice M
tells_faults failed = record {
  size = λ _. 0;
  tells_words = false;
  words = λ _. [];
  tells_images = false;
  leaves = λ _ _. Unit {0};
  clock = λ _. 0;
  left_since = λ _ _ _. Unit {0};
  tells_doubts = false;
  doubted = λ _ _. ⊥;
  reads = λ _. 0;
  writes = λ _. 0;
  syncs = λ _. 0;
  faults = failed;
  failing = λ _. false;
}
