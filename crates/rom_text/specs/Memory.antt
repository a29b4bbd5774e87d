-- What a contract sees of the sources and sinks in memory.
use Rattle.std.specs.Prelude.{◌≡◌, ◌==◌, ℕ, Bool, false, List, [], drop, Some}
use Rattle.std.specs.List.{list_any}
use Rattle.rom_model.specs.Faults.{counted}
use Rattle.rom_text.specs.Streams.{ShownSink, ShownSource}
use Rattle.rom_text.specs.declared.memory.Bytes.{Bytes}
use Rattle.rom_text.specs.declared.memory.Collect.{Collect}

-- the bytes that are left
abbrev pub bytes_left : Bytes → List ℕ
bytes_left b = drop b.at b.content.items

-- how many bytes a read gives at most
abbrev pub piece_of : Bytes → ℕ
piece_of b = b.piece

-- the numbers of the reads that fail, counted from 1
abbrev pub failing_reads : Bytes → List ℕ
failing_reads b = b.trips.items

-- how many reads were made
abbrev pub reads_of : Bytes → ℕ
reads_of b = b.reads

-- whether a read of this number fails
abbrev pub trips_at : Bytes → ℕ → Bool
trips_at b read = list_any (λ trip. trip == read) (failing_reads b)

-- bytes in memory as a source, which tells those that are left
abbrev pub shown_bytes : ShownSource Bytes
shown_bytes = record { left = λ b. Some (bytes_left b); faults = λ b. b.faults; idle = λ b. b.idle; ended = λ b. b.ended }

-- no read was made yet
pub record IsUnread (b : Bytes) : Type 0 where
  pub reads : reads_of b ≡ 0
  pub faults : shown_bytes.faults b ≡ 0
  pub idle : shown_bytes.idle b ≡ 0
  pub ended : shown_bytes.ended b ≡ false

-- A read keeps the pieces and the trips, and is counted.
pub record ReadsOn (old new : Bytes) : Type 0 where
  pub piece : piece_of new ≡ piece_of old
  pub trips : failing_reads new ≡ failing_reads old
  pub reads : reads_of new ≡ counted (reads_of old)

-- the bytes that were taken
abbrev pub bytes_taken : Collect → List ℕ
bytes_taken c = c.bytes.items

-- how many bytes it takes in all
abbrev pub bytes_room : Collect → ℕ
bytes_room c = c.room

-- how many bytes a write takes at most
abbrev pub write_piece_of : Collect → ℕ
write_piece_of c = c.piece

-- a collecting sink, which tells the bytes that were taken
abbrev pub shown_collect : ShownSink Collect
shown_collect = record { taken = λ c. Some (bytes_taken c); faults = λ c. c.faults; failing = λ c. c.failing; Rest = Unit {0}; rest = λ c. tt }

-- no write was made yet
pub record IsUnwritten (c : Collect) : Type 0 where
  pub taken : bytes_taken c ≡ []
  pub faults : shown_collect.faults c ≡ 0
  pub failing : shown_collect.failing c ≡ false

-- a write keeps the room and the pieces
abbrev pub KeepsRoom : Collect → Collect → Type 0
KeepsRoom old new = (bytes_room new ≡ bytes_room old) × (write_piece_of new ≡ write_piece_of old)
