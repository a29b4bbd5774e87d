-- The device as a store was started on it.
use Rattle.std.specs.Prelude.{◌≡◌, ℕ, List, IsTrue}
use Rattle.rom_device.specs.Device.{ShownDevice}

-- how many words it had, which, and the moment; and how many reads, writes and syncs had been called
pub record Start : Type 0 where
  pub size : ℕ
  pub words : List ℕ
  pub clock : ℕ
  pub reads : ℕ
  pub writes : ℕ
  pub syncs : ℕ

module _ {D : Type 0} (shown : ShownDevice D) where
  -- that of this device
  abbrev pub device_start : D → Start
  device_start device = record {
    size = shown.size device;
    words = shown.words device;
    clock = shown.clock device;
    reads = shown.reads device;
    writes = shown.writes device;
    syncs = shown.syncs device;
  }

  -- A device that has failed so often, and whose words, moment and counts of calls are those of that start. The test tells which images a stop at some moment since another one might have left by then.
  pub record HasStarted (faults : ℕ) (start : Start) (test : ℕ → List ℕ → Type 0) (device : D) : Type 0 where
    pub faults_are : shown.faults device ≡ faults
    pub words : shown.words device ≡ start.words
    pub reads : shown.reads device ≡ start.reads
    pub writes : shown.writes device ≡ start.writes
    pub syncs : shown.syncs device ≡ start.syncs
    pub clock : shown.clock device ≡ start.clock
    pub left : IsTrue shown.tells_images → (t : ℕ) (i : List ℕ) → (test t i → shown.left_since device t i) × (shown.left_since device t i → test t i)
