-- What a contract sees of a device that passes so many calls on, and what it passes on.
use Rattle.std.specs.Prelude.{◌≡◌, ℕ, ◌+◌, ◌-◌, ◌<◌, ◌≤◌, min, Bool, true, false, IsTrue, List, length, take, slice_index, nat_lt, is_err, IsErr, Result}
use Rattle.rom_model.specs.Faults.{Adds, FailedLast, LAST, counted}
use Rattle.rom_device.specs.Device.{ShownDevice, CountsCalls, Does, OnlyReads, WritesMany}
use Rattle.rom_device.specs.declared.fuse.Fuse.{Fuse}

-- the device within
abbrev pub inner_of : {D : Type 0} → Fuse D → D
inner_of fuse = fuse.inner

-- how many calls it still passes on
abbrev pub calls_left : {D : Type 0} → Fuse D → ℕ
calls_left fuse = fuse.left

-- how often it has failed a call itself, and not passed it on
abbrev pub own_faults_of : {D : Type 0} → Fuse D → ℕ
own_faults_of fuse = fuse.failed

-- no call was counted, and none failed of itself
pub record FuseCountsNothing {D : Type 0} (fuse : Fuse D) : Type 0 where
  pub own_faults : own_faults_of fuse ≡ 0
  pub reads : fuse.reads ≡ 0
  pub writes : fuse.writes ≡ 0
  pub syncs : fuse.syncs ≡ 0
  pub failing : fuse.failing ≡ false

module _ {D : Type 0} (shown : ShownDevice D) where
  -- The words and what a stop may leave are those of the device within. The calls are those made of
  -- the fuse itself, and the faults those of both.
  abbrev pub shown_by_fuse : ShownDevice (Fuse D)
  shown_by_fuse = record {
    size = λ f. shown.size (inner_of f);
    tells_words = shown.tells_words;
    words = λ f. shown.words (inner_of f);
    tells_images = shown.tells_images;
    leaves = λ f. shown.leaves (inner_of f);
    clock = λ f. shown.clock (inner_of f);
    left_since = λ f. shown.left_since (inner_of f);
    tells_doubts = shown.tells_doubts;
    doubted = λ f. shown.doubted (inner_of f);
    reads = λ f. f.reads;
    writes = λ f. f.writes;
    syncs = λ f. f.syncs;
    faults = λ f. min (shown.faults (inner_of f) + own_faults_of f) LAST;
    failing = λ f. f.failing;
  }

  -- One call, which is passed on as this one where the fuse has a call left, and otherwise fails and is not.
  pub record Passes {T E : Type 0} (reads writes syncs : ℕ) (old new : Fuse D) (result : Result T E) : Type 0 where
    pub left : calls_left new ≡ calls_left old - 1
    pub passed : 0 < calls_left old → CountsCalls shown reads writes syncs (inner_of old) (inner_of new) result × (own_faults_of new ≡ own_faults_of old)
    pub spent : calls_left old ≡ 0 → IsErr result × (inner_of new ≡ inner_of old) × (own_faults_of new ≡ counted (own_faults_of old))

  -- of these calls the last one failed, or none
  pub record FailsLast (failed : Bool) (old new : D) : Type 0 where
    pub none : failed ≡ false → shown.faults new ≡ shown.faults old
    pub last : failed ≡ true → FailedLast (shown.faults old) (shown.faults new) (shown.failing new)

  -- so many reads, and no other call
  pub record MadeReads (k : ℕ) (failed : Bool) (old new : D) : Type 0 where
    pub only : OnlyReads shown old new
    pub reads_made : Adds k (shown.reads old) (shown.reads new)
    pub fails : FailsLast failed old new

  -- a write of each of the first k of these words, from that place on, and no other call
  pub record MadeWrites (at : ℕ) (values : List ℕ) (k : ℕ) (failed : Bool) (old new : D) : Type 0 where
    pub does : Does shown (WritesMany at (take k values)) old new
    pub reads_made : shown.reads new ≡ shown.reads old
    pub writes_made : Adds k (shown.writes old) (shown.writes new)
    pub syncs_made : shown.syncs new ≡ shown.syncs old
    pub fails : FailsLast failed old new

-- Of so many calls, one after another up to the first that fails, this number went well: those that the
-- fuse had left were passed on, and where they ended it failed the next one itself.
pub record PassesUpTo {D : Type 0} (Made : ℕ → Bool → D → D → Type 0) (well len : ℕ) (old new : Fuse D) : Type 0 where
  pub within : well ≤ len
  pub left : calls_left new ≡ calls_left old - min (well + 1) len
  pub passed : min (well + 1) len ≤ calls_left old → Made (min (well + 1) len) (nat_lt well len) (inner_of old) (inner_of new) × (own_faults_of new ≡ own_faults_of old)
  pub spent : calls_left old < min (well + 1) len → (well ≡ calls_left old) × Made well false (inner_of old) (inner_of new) × (own_faults_of new ≡ counted (own_faults_of old))

-- the calls that write these words from that place on, of which so many went well: each of those is written
pub record PassesWrites {D T E : Type 0} (shown : ShownDevice D) (at : ℕ) (values : List ℕ) (old new : Fuse D) (result : Result T E) : Type 0 where
  pub well : ℕ
  pub fails : is_err result ≡ nat_lt well (length values)
  pub writes_made : Adds (min (well + 1) (length values)) old.writes new.writes
  pub written : IsTrue shown.tells_words → (k : ℕ) → k < well → slice_index (shown.words (inner_of new)) (at + k) ≡ slice_index values k
  pub passes : PassesUpTo (MadeWrites shown at values) well (length values) old new
