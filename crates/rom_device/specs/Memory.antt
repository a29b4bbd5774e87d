-- What a contract sees of a memory device, and what its calls list.
use Rattle.std.specs.Prelude.{◌≡◌, ℕ, zero, suc, ◌+◌, Bool, true, false, ◌||◌, if◌then◌else◌, List, [], ◌∷◌, ◌++◌, length, reverse, nat_le, nat_lt, min, is_some, is_none, is_err, Option, Some, None, Result, ◌<◌, ◌≤◌, slice_index}
use Rattle.rom_device.specs.declared.call.LoggedCall.{LoggedCall}
use Rattle.rom_device.specs.declared.call.LoggedCall.TheVariants.{Read, Write, Sync}
use Rattle.rom_device.specs.declared.trip.Trip.{Trip}
use Rattle.rom_device.specs.declared.memory.Memory.{Memory}
use Rattle.rom_model.specs.Faults.{Adds}
use Rattle.rom_device.specs.Device.{ShownDevice}
use Rattle.rom_device.specs.Log.{words_after, call_kind, place_of, MayLeave, MayLeaveSince}
use Rattle.rom_device.specs.Choice.{picked}
use Rattle.rom_device.specs.Trips.{trip_at}

-- the words at its making
abbrev pub start_of : Memory → List ℕ
start_of m = m.start.items

-- the calls made since, in order
abbrev pub calls_of : Memory → List LoggedCall
calls_of m = m.made.items

-- how many calls there is room for
abbrev pub room_of : Memory → ℕ
room_of m = m.room

-- the trips: each names one call that is to fail
abbrev pub trips_of : Memory → List Trip
trips_of m = m.trips.items

-- the words as they read
abbrev pub words_of_memory : Memory → List ℕ
words_of_memory m = words_after (start_of m) (reverse (calls_of m))

-- The moment is the number of calls listed.
abbrev pub shown_by_memory : ShownDevice Memory
shown_by_memory = record {
  size = λ m. length (start_of m);
  tells_words = true;
  words = words_of_memory;
  tells_images = true;
  leaves = λ m. MayLeave (start_of m) (reverse (calls_of m));
  clock = λ m. length (reverse (calls_of m));
  left_since = λ m t. MayLeaveSince (start_of m) t (reverse (calls_of m));
  tells_doubts = false;
  doubted = λ _ _. ⊥;
  reads = λ m. m.reads;
  writes = λ m. m.writes;
  syncs = λ m. m.syncs;
  faults = λ m. m.faults;
  failing = λ m. m.failing;
}

-- no call was counted, and none failed
pub record MemoryCountsNothing (m : Memory) : Type 0 where
  pub reads : shown_by_memory.reads m ≡ 0
  pub writes : shown_by_memory.writes m ≡ 0
  pub syncs : shown_by_memory.syncs m ≡ 0
  pub faults : shown_by_memory.faults m ≡ 0
  pub failing : shown_by_memory.failing m ≡ false

-- What a call does, by the room, the trips, and the calls listed before it. A write is asked for as
-- one that lands, and a sync as one that is done.
module _ (room : ℕ) (trips : List Trip) where
  -- the trip by which it fails
  abbrev pub trip_of : List LoggedCall → LoggedCall → Option Trip
  trip_of calls call = trip_at trips calls (call_kind call) (place_of call)

  -- whether it fails: no room is left, or it trips
  abbrev pub fails : List LoggedCall → LoggedCall → Bool
  fails calls call = nat_le room (length calls) || is_some (trip_of calls call)

  -- whether a write by which such a trip goes off leaves the new value
  abbrev pub keeps_new : Option Trip → Bool
  keeps_new None = true
  keeps_new (Some trip) = trip.keeps_new

  -- the call, as it is listed
  abbrev pub as_listed : List LoggedCall → LoggedCall → LoggedCall
  as_listed calls (Read at) = Read at
  as_listed calls (Write at value lands) = Write at value (keeps_new (trip_of calls (Write at value lands)))
  as_listed calls (Sync done) = Sync (is_none (trip_of calls (Sync done)))

  -- the calls after it, which is listed where there is room
  abbrev pub calls_with : List LoggedCall → LoggedCall → List LoggedCall
  calls_with calls call = if nat_le room (length calls) then calls else calls ++ as_listed calls call ∷ []

  -- of calls that are made one after another, how many go well before the first that fails
  abbrev pub made_well : List LoggedCall → List LoggedCall → ℕ
  made_well calls [] = 0
  made_well calls (call ∷ more) = if fails calls call then 0 else made_well (calls_with calls call) more + 1

  -- The list once more calls were made one after another, up to the first that fails. That one is listed
  -- too where there is room.
  abbrev pub calls_through : List LoggedCall → List LoggedCall → List LoggedCall
  calls_through calls [] = calls
  calls_through calls (call ∷ more) = if fails calls call then calls_with calls call else calls_through (calls_with calls call) more

-- the calls that read so many words from that place on
abbrev pub reads_from : ℕ → ℕ → List LoggedCall
reads_from at zero = []
reads_from at (suc len) = Read at ∷ reads_from (at + 1) len

-- the calls that write these words from that place on
abbrev pub writes_from : ℕ → List ℕ → List LoggedCall
writes_from at [] = []
writes_from at (value ∷ values) = Write at value true ∷ writes_from (at + 1) values

-- calls change none of these
pub record KeepsRest (old new : Memory) : Type 0 where
  pub start : start_of new ≡ start_of old
  pub room : room_of new ≡ room_of old
  pub trips : trips_of new ≡ trips_of old

-- one call
pub record Lists {T E : Type 0} (call : LoggedCall) (old new : Memory) (result : Result T E) : Type 0 where
  pub fails : is_err result ≡ fails (room_of old) (trips_of old) (calls_of old) call
  pub calls : calls_of new ≡ calls_with (room_of old) (trips_of old) (calls_of old) call
  pub rest : KeepsRest old new

-- several calls, one after another up to the first that fails, of which so many go well
pub record ListsMany (asked : List LoggedCall) (well : ℕ) (old new : Memory) : Type 0 where
  pub goes_well : well ≡ made_well (room_of old) (trips_of old) (calls_of old) asked
  pub calls : calls_of new ≡ calls_through (room_of old) (trips_of old) (calls_of old) asked
  pub rest : KeepsRest old new

-- the calls that write these words from that place on, of which so many go well
pub record ListsWrites {T E : Type 0} (at : ℕ) (values : List ℕ) (old new : Memory) (result : Result T E) : Type 0 where
  pub well : ℕ
  pub fails : is_err result ≡ nat_lt well (length values)
  pub writes_made : Adds (min (well + 1) (length values)) (shown_by_memory.writes old) (shown_by_memory.writes new)
  pub lists : ListsMany (writes_from at values) well old new

-- each word of the image is its possible value of that number, modulo how many there are; a missing
-- number is 0
pub record Picks (m : Memory) (numbers image : List ℕ) : Type 0 where
  pub as_long : length image ≡ length (start_of m)
  pub each : (k : ℕ) → k < length (start_of m) → slice_index image k ≡ picked (start_of m) (reverse (calls_of m)) k (slice_index numbers k)

-- some numbers, none past the number of calls made, pick the image
abbrev pub IsPicked : Memory → List ℕ → Type 0
IsPicked m image = (numbers : List ℕ) × ((k : ℕ) → k < length (start_of m) → slice_index numbers k ≤ length (calls_of m)) × Picks m numbers image
