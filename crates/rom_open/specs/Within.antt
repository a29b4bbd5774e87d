-- What of a device's calls the opening of its heap comes to at most, and the making of one.
use Rattle.std.specs.Prelude.{◌≡◌, ◌⊎◌, ℕ, ◌+◌, ◌*◌, ◌≤◌, List, slice_index, Err, IsTrue}
use Rattle.rom_model.specs.Blocks.{IsOrder, region_len}
use Rattle.rom_model.specs.Faults.{StopsAtFault}
use Rattle.rom_device.specs.Device.{ShownDevice, Does, Leaves, Makes, Stays}
use Rattle.rom_header.specs.Calls.{format_fault, format_reads, format_syncs, format_writes}
use Rattle.rom_header.specs.Headers.{IsIdle}
use Rattle.rom_header.specs.Held.{Holds}
use Rattle.rom_header.specs.Layout.{STATE, words_needed}
use Rattle.rom_recover.specs.Calls.{CallsWithin}
use Rattle.rom_open.specs.AtRest.{IsHeapAtRest}
use Rattle.rom_open.specs.Calls.{opening_reads, opening_syncs, opening_writes}
use Rattle.rom_open.specs.Making.{NoneOrHolds}
use Rattle.rom_open.specs.Refusals.{named_order}
use Rattle.rom_open.specs.declared.new_heap.NotFormatted.{NotFormatted}
use Rattle.rom_open.specs.declared.new_heap.NotFormatted.TheVariants.{Refused, OutOfMemory}

module _ {D : Type 0} (shown : ShownDevice D) where
  -- No more than the words before it ask for, of one opening: under IDLE no write, and one sync.
  abbrev pub CallsOfOpening : D → D → Type 0
  CallsOfOpening was now = let words = shown.words was in let state = slice_index words STATE in
      IsTrue shown.tells_words → CallsWithin shown (opening_reads (named_order words) state) (opening_writes (named_order words) state) (opening_syncs state) was now

  -- No more than one opening of a heap of this order asks for, whatever its words are: the header and the state again, and both regions, are read, and one region and twice the state are written.
  abbrev pub CallsOfOrder : ℕ → D → D → Type 0
  CallsOfOrder order was now = CallsWithin shown (5 + 2 * region_len order) (region_len order + 2) 4 was now

  -- So of a heap of some order that there is, which the device has room for; or no more than the reads of a header.
  abbrev pub CallsOfSomeOrder : D → D → Type 0
  CallsOfSomeOrder was now = CallsWithin shown 4 0 0 was now ⊎ ((order : ℕ) × IsOrder order × (words_needed order ≤ shown.size was) × CallsOfOrder order was now)

  -- Of the making of one heap of this order: one read, a write of each of its words, and three syncs.
  abbrev pub CallsOfMaking : ℕ → D → D → Type 0
  CallsOfMaking order was now = CallsWithin shown 1 (words_needed order) 3 was now

  -- The calls of one opening at most, by the words where these are told and by the order whatever they are, and none after one that failed. Under IDLE every word stays.
  pub record WithinOpening (was now : D) : Type 0 where
    pub calls : CallsOfOpening was now
    pub by_order : CallsOfSomeOrder was now
    pub idle : IsTrue shown.tells_words → IsIdle (shown.words was) → Does shown Stays was now
    pub stops : StopsAtFault (shown.faults was) (shown.faults now) (shown.failing now)

  -- The calls of the making of one heap of this order at most, and none after one that failed.
  pub record WithinMaking (order : ℕ) (was now : D) : Type 0 where
    pub calls : CallsOfMaking order was now
    pub stops : StopsAtFault (shown.faults was) (shown.faults now) (shown.failing now)

  -- Where the words are told, they are a heap of this order at rest: under IDLE, with both regions the same.
  abbrev pub LiesAtRest : ℕ → D → Type 0
  LiesAtRest order now = IsTrue shown.tells_words → (image : List ℕ) × IsHeapAtRest order image (shown.words now)

  -- Since this device a heap of this order was opened once at most, and no call failed; and it is at rest.
  pub record HasOpened (order : ℕ) (was now : D) : Type 0 where
    pub calls : CallsOfOpening was now
    pub by_order : CallsOfOrder order was now
    pub faults : shown.faults now ≡ shown.faults was
    pub rest : LiesAtRest order now

  -- A heap of this order with this state was made once at most, likewise. Until it stood, a stop left what could be left before, or no heap, or the new one; now that it stands, the new one alone.
  pub record HasMadeHeap {S : Type 0} (Contents : ℕ → List ℕ → S → ℕ → Type 0) (order : ℕ) (state : S) (was now : D) : Type 0 where
    pub calls : CallsOfMaking order was now
    pub faults : shown.faults now ≡ shown.faults was
    pub rest : LiesAtRest order now
    pub making : IsTrue shown.tells_images → Leaves shown (NoneOrHolds Contents order state) was now
    pub stands : IsTrue shown.tells_images → (i : List ℕ) → shown.leaves now i → Holds Contents order i state 0

-- The calls where no heap was made, by the reason: those of the making that was refused so, and none for want of memory.
abbrev pub MakesNone : {D : Type 0} → ShownDevice D → ℕ → NotFormatted → D → D → Type 0
MakesNone shown order (Refused why) was now = Makes shown (format_reads (Err why)) (format_writes order (Err why)) (format_syncs (Err why)) was now (format_fault (Err why))
MakesNone shown order OutOfMemory was now = now ≡ was
