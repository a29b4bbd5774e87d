-- What a contract sees of a device over a medium.
use Rattle.std.specs.Prelude.{◌≡◌, ◌⊎◌, ◌&&◌, ℕ, Bool, IsTrue, IsFalse, None, nat_lt}
use Rattle.rom_device.specs.Cached as cached
use Rattle.rom_device.specs.Cached.{may_leave}
use Rattle.rom_device.specs.Run.{word_of_run, with_run}
use Rattle.rom_device.specs.Device.{ShownDevice}
use Rattle.rom_device.specs.declared.cached_device.CachedDevice.{CachedDevice}

module _ {M : Type 0} {bound : _} where
  -- how many words there are
  abbrev pub length_of : CachedDevice M bound → ℕ
  length_of device = device.words.len

  -- how many reads were called
  abbrev pub read_count : CachedDevice M bound → ℕ
  read_count device = device.reads

  -- how many writes were called
  abbrev pub write_count : CachedDevice M bound → ℕ
  write_count device = device.writes

  -- how many syncs were called
  abbrev pub sync_count : CachedDevice M bound → ℕ
  sync_count device = device.syncs

  -- how many of these reads, writes and syncs failed
  abbrev pub fault_count_of : CachedDevice M bound → ℕ
  fault_count_of device = device.failed

  -- whether the last call failed
  abbrev pub is_failing : CachedDevice M bound → Bool
  is_failing device = device.failing

  -- the medium
  abbrev pub medium_of : CachedDevice M bound → M
  medium_of device = device.words.medium

  -- whether a word waits that could not be handed over yet
  abbrev pub has_waiting : CachedDevice M bound → Bool
  has_waiting device = nat_lt 0 device.words.pending.count

  -- whether a sync of the medium has failed
  abbrev pub device_has_failed_sync : CachedDevice M bound → Bool
  device_has_failed_sync device = cached.has_failed_sync device.words

  -- the words are not all certain: one still waits, or a sync of the medium has failed
  abbrev pub IsUncertain : CachedDevice M bound → Type 0
  IsUncertain device = IsTrue (has_waiting device) ⊎ IsTrue (device_has_failed_sync device)

  -- how often the medium has failed
  abbrev pub medium_faults : ShownDevice M → CachedDevice M bound → ℕ
  medium_faults shown device = shown.faults (medium_of device)

  -- no call was made of it
  abbrev pub IsUnused : CachedDevice M bound → Type 0
  IsUnused device = (read_count device ≡ 0) × (write_count device ≡ 0) × (sync_count device ≡ 0) × (fault_count_of device ≡ 0) × IsFalse (is_failing device)

  -- It shows its size and its counts; where the medium tells its words, these with those that wait in
  -- their places; and where the medium tells what a stop may leave, that with each word by itself as it
  -- is there or as it waits. In doubt are the words that are so on the medium, but where another waits;
  -- and where none ever is (the first argument says so of the medium), it tells images without doubts too.
  abbrev pub shown_by_device : Bool → ShownDevice M → ShownDevice (CachedDevice M bound)
  shown_by_device lasting shown = record {
    size = length_of;
    tells_words = shown.tells_words;
    words = λ d. with_run d.words.pending (shown.words d.words.medium);
    tells_images = lasting && shown.tells_images;
    leaves = λ d. may_leave shown d.words.pending d.words.medium;
    clock = λ d. shown.clock d.words.medium;
    left_since = λ d t i. may_leave shown d.words.pending d.words.medium i ⊎ shown.left_since d.words.medium t i;
    tells_doubts = shown.tells_images;
    doubted = λ d at. shown.doubted d.words.medium at × (word_of_run d.words.pending at ≡ None);
    reads = read_count;
    writes = write_count;
    syncs = sync_count;
    faults = fault_count_of;
    failing = is_failing;
  }

  -- Reads and writes change neither how many words there are, nor whether there is a medium, nor what is known of its syncs, and where there is none they end so.
  pub record Keeps (missing : M → Bool) (Ends : Type 0) (old new : CachedDevice M bound) : Type 0 where
    pub size : length_of new ≡ length_of old
    pub medium : missing (medium_of new) ≡ missing (medium_of old)
    pub none : IsTrue (missing (medium_of old)) → Ends
    pub failed_sync : device_has_failed_sync new ≡ device_has_failed_sync old
