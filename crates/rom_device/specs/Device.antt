-- What a device shows of itself, what its calls do to its words, and what a stop may leave of them.
use Rattle.std.specs.Prelude.{◌≡◌, ◌⊎◌, ℕ, ◌+◌, ◌<◌, ◌≤◌, Bool, IsTrue, if◌then◌else◌, is_err, nat_lt, List, length, slice_index, slice_set, Option, Some, None, Result, OnOk}
use Rattle.rom_model.specs.Faults.{Adds, AtMost, FailedLast, HasCause, counted}
use Rattle.rom_model.specs.Space.{ChangesOnly}

-- A fixed number of 64-bit words that are read, written and made certain. An earlier program may have left words in doubt: they read as it wrote them last, but a stop may leave an older value, and no sync of this program makes them certain until it has written them itself.
pub record ShownDevice (D : Type 0) : Type 1 where
  -- how many words it has
  pub size : D → ℕ
  -- the words as they read, where it tells them
  pub tells_words : Bool
  pub words : D → List ℕ
  -- where it tells them, the images, with no word ever in doubt: what a stop now may leave, and what a stop at some moment since that one might have left, within a call or between two; and the moment, as a number that never falls
  pub tells_images : Bool
  pub leaves : D → List ℕ → Type 0
  pub clock : D → ℕ
  pub left_since : D → ℕ → List ℕ → Type 0
  -- whether it tells the images with words in doubt, and which places are; of a medium `tells_images` says both
  pub tells_doubts : Bool
  pub doubted : D → ℕ → Type 0
  -- how many reads, writes and syncs were called, each up to 2 ^ 64 - 1; each word of a call for many is one
  pub reads : D → ℕ
  pub writes : D → ℕ
  pub syncs : D → ℕ
  -- how many calls of it failed, up to 2 ^ 64 - 1, and whether the last one did
  pub faults : D → ℕ
  pub failing : D → Bool

-- A step takes the words before it and those after it. Here nothing changes.
abbrev pub Stays : List ℕ → List ℕ → Type 0
Stays old new = new ≡ old

-- that word is as it was, or this value, and the others stay
abbrev pub WritesWord : ℕ → ℕ → List ℕ → List ℕ → Type 0
WritesWord at value old new = (new ≡ old) ⊎ (new ≡ slice_set old at value)

-- only the words from that place on differ, as many as these are, and each is as it was or the one of these
pub record WritesMany (at : ℕ) (values old new : List ℕ) : Type 0 where
  pub only : ChangesOnly at (length values) old new
  pub either : (k : ℕ) → k < length values → (slice_index new (at + k) ≡ slice_index old (at + k)) ⊎ (slice_index new (at + k) ≡ slice_index values k)

-- The first k of these words are written from that place on; the next one is as it was or written, and no other differs.
pub record WritesUpTo (at k : ℕ) (values old new : List ℕ) : Type 0 where
  pub only : ChangesOnly at (k + 1) old new
  pub written : (j : ℕ) → j < k → slice_index new (at + j) ≡ slice_index values j
  pub next : (slice_index new (at + k) ≡ slice_index old (at + k)) ⊎ (slice_index new (at + k) ≡ slice_index values k)

-- it is as it was, or has P
abbrev pub Becomes : (List ℕ → Type 0) → List ℕ → List ℕ → Type 0
Becomes P old new = (new ≡ old) ⊎ P new

-- what a step may make of one of these images
pub record After (step : List ℕ → List ℕ → Type 0) (old : List ℕ → Type 0) (image : List ℕ) : Type 0 where
  pub from : List ℕ
  pub was : old from
  pub by : step from image

-- A run of calls: each image that a stop during or after it may leave is one from before it after a step,
-- and none that might have been left is forgotten. It compares the device before and after, whatever calls
-- came between. So a loop's invariant has the form of a single call's clause.
pub record Runs {D : Type 0} (shown : ShownDevice D) (step : List ℕ → List ℕ → Type 0) (old new : D) : Type 0 where
  pub later : shown.clock old ≤ shown.clock new
  pub now : (i : List ℕ) → shown.leaves new i → After step (shown.leaves old) i
  pub nothing_else : (t : ℕ) (i : List ℕ) → shown.left_since new t i → shown.left_since old t i ⊎ After step (shown.leaves old) i
  pub keeps : (t : ℕ) (i : List ℕ) → t ≤ shown.clock old → shown.left_since old t i → shown.left_since new t i

-- Each image that might have been left since some moment before the run might have been left by
-- its start, or has P.
pub record Leaves {D : Type 0} (shown : ShownDevice D) (P : List ℕ → Type 0) (old new : D) : Type 0 where
  pub later : shown.clock old ≤ shown.clock new
  pub nothing_else : (t : ℕ) (i : List ℕ) → t ≤ shown.clock old → shown.left_since new t i → shown.left_since old t i ⊎ P i
  pub keeps : (t : ℕ) (i : List ℕ) → t ≤ shown.clock old → shown.left_since old t i → shown.left_since new t i

-- What holds of a device that tells the images with words in doubt, whatever its calls: a stop may leave the words as they read, and as many as they are, and this moment is the one alone since itself.
pub record TellsDoubts {D : Type 0} (shown : ShownDevice D) : Type 0 where
  pub words : IsTrue shown.tells_words
  pub reads_image : (d : D) → shown.leaves d (shown.words d)
  pub images_fit : (d : D) (i : List ℕ) → shown.leaves d i → length i ≡ length (shown.words d)
  pub counts_now : (d : D) (t : ℕ) (i : List ℕ) → t ≤ shown.clock d → shown.leaves d i → shown.left_since d t i
  pub only_now : (d : D) (i : List ℕ) → shown.left_since d (shown.clock d) i → shown.leaves d i

module _ {D : Type 0} (shown : ShownDevice D) where
  -- the words, where the device tells them
  abbrev pub told_words : D → Option (List ℕ)
  told_words device = if shown.tells_words then Some (shown.words device) else None

  -- no write is unsynced: a stop leaves the words as they read
  abbrev pub IsSynced : D → Type 0
  IsSynced device = IsTrue shown.tells_images → (i : List ℕ) → shown.leaves device i → i ≡ shown.words device

  -- a stop leaves each word as it reads, but for those in doubt
  abbrev pub AreSettled : D → Type 0
  AreSettled device = (i : List ℕ) → shown.leaves device i → (b : ℕ) → (slice_index i b ≡ slice_index (shown.words device) b) ⊎ shown.doubted device b

  -- no place is in doubt that was not
  abbrev pub DoubtsNoMore : D → D → Type 0
  DoubtsNoMore old new = (b : ℕ) → shown.doubted new b → shown.doubted old b

  -- that place is not in doubt
  abbrev pub IsRenewed : ℕ → D → Type 0
  IsRenewed at device = shown.doubted device at → ⊥

  -- none of so many places from that one on is in doubt
  abbrev pub AreRenewed : ℕ → ℕ → D → Type 0
  AreRenewed at count device = (k : ℕ) → k < count → shown.doubted device (at + k) → ⊥

  -- Calls that change the words, and each image, by this step alone, and bring no word in doubt.
  pub record Does (step : List ℕ → List ℕ → Type 0) (old new : D) : Type 0 where
    pub size : shown.size new ≡ shown.size old
    pub words : IsTrue shown.tells_words → step (shown.words old) (shown.words new)
    pub images : IsTrue shown.tells_images → Runs shown step old new
    pub doubts : IsTrue shown.tells_doubts → Runs shown step old new
    pub fewer : DoubtsNoMore old new

  -- Calls of `read` alone: words and images stay.
  pub record OnlyReads (old new : D) : Type 0 where
    pub size : shown.size new ≡ shown.size old
    pub words : IsTrue shown.tells_words → shown.words new ≡ shown.words old
    pub images : IsTrue shown.tells_images → Runs shown Stays old new
    pub doubts : IsTrue shown.tells_doubts → Runs shown Stays old new
    pub fewer : DoubtsNoMore old new
    -- No image is forgotten: a read that made words certain would be a sync.
    pub still : IsTrue shown.tells_images → (i : List ℕ) → shown.leaves old i → shown.leaves new i
    pub writes : shown.writes new ≡ shown.writes old
    pub syncs : shown.syncs new ≡ shown.syncs old

  -- One call: exactly so many reads, writes and syncs are counted, and a fault exactly where it fails.
  pub record CountsCalls {T E : Type 0} (reads writes syncs : ℕ) (old new : D) (result : Result T E) : Type 0 where
    pub reads_made : Adds reads (shown.reads old) (shown.reads new)
    pub writes_made : Adds writes (shown.writes old) (shown.writes new)
    pub syncs_made : Adds syncs (shown.syncs old) (shown.syncs new)
    pub faults : shown.faults new ≡ (if is_err result then counted (shown.faults old) else shown.faults old)
    pub failing : shown.failing new ≡ is_err result

  -- Several calls, of which none follows one that failed: exactly so many of each after `Ok`, and after an error at most so many, and none is taken back.
  pub record Makes {T E : Type 0} (reads writes syncs : ℕ) (old new : D) (result : Result T E) : Type 0 where
    pub reads_made : OnOk result (Adds reads (shown.reads old) (shown.reads new))
    pub writes_made : OnOk result (Adds writes (shown.writes old) (shown.writes new))
    pub syncs_made : OnOk result (Adds syncs (shown.syncs old) (shown.syncs new))
    pub most_reads : AtMost reads (shown.reads old) (shown.reads new)
    pub most_writes : AtMost writes (shown.writes old) (shown.writes new)
    pub most_syncs : AtMost syncs (shown.syncs old) (shown.syncs new)
    pub cause : HasCause (shown.faults old) (shown.faults new) (shown.failing new) result

  -- So many of so many words were read one after another, and where they are fewer the next read failed.
  pub record ReadsUpTo (k len : ℕ) (old new : D) : Type 0 where
    pub within : k ≤ len
    pub reads_made : Adds (if nat_lt k len then k + 1 else k) (shown.reads old) (shown.reads new)
    pub all : k ≡ len → shown.faults new ≡ shown.faults old
    pub fewer : k < len → FailedLast (shown.faults old) (shown.faults new) (shown.failing new)

  -- Writing these words one after another ended at one of them, of number k, whose write failed.
  pub record WritingFailed (at : ℕ) (values : List ℕ) (old new : D) : Type 0 where
    pub k : ℕ
    pub within : k < length values
    pub writes_made : Adds (k + 1) (shown.writes old) (shown.writes new)
    pub words : IsTrue shown.tells_words → WritesUpTo at k values (shown.words old) (shown.words new)
