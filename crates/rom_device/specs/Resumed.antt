-- What a contract sees of words in memory that an earlier program left, some of them in doubt.
use Rattle.std.specs.Prelude.{ℕ, true, false, not, ◌&&◌, IsTrue, List, length, reverse}
use Rattle.rom_device.specs.Device.{ShownDevice}
use Rattle.rom_device.specs.Older.{MayLeaveOlder, MayLeaveOlderSince, handed, stale}
use Rattle.rom_device.specs.Memory.{start_of, calls_of, words_of_memory, shown_by_memory}
use Rattle.rom_device.specs.declared.call.LoggedCall.{LoggedCall}
use Rattle.rom_device.specs.declared.memory.Memory.{Memory}
use Rattle.rom_device.specs.declared.resumed.Resumed.{Resumed}

-- the words of an earlier program in memory, with the calls made since
abbrev pub memory_of : Resumed → Memory
memory_of r = r.memory

-- the older words
abbrev pub older_of : Resumed → List ℕ
older_of r = r.older.items

-- the calls made since, the newest first
abbrev pub log_of : Resumed → List LoggedCall
log_of r = reverse (calls_of r.memory)

-- In doubt is a word of which a stop may leave the older one, until it is written.
abbrev pub shown_by_resumed : ShownDevice Resumed
shown_by_resumed = record {
  size = λ r. length (start_of r.memory);
  tells_words = true;
  words = λ r. words_of_memory r.memory;
  tells_images = false;
  leaves = λ r. MayLeaveOlder (older_of r) (start_of r.memory) (log_of r);
  clock = λ r. length (log_of r);
  left_since = λ r t. MayLeaveOlderSince (older_of r) (start_of r.memory) t (log_of r);
  tells_doubts = true;
  doubted = λ r at. IsTrue (stale (older_of r) (start_of r.memory) (log_of r) at && not (handed (log_of r) at));
  reads = λ r. shown_by_memory.reads r.memory;
  writes = λ r. shown_by_memory.writes r.memory;
  syncs = λ r. shown_by_memory.syncs r.memory;
  faults = λ r. shown_by_memory.faults r.memory;
  failing = λ r. shown_by_memory.failing r.memory;
}
