-- The room that updates leave which are taken in order, as far as it is known before they are done.
use Rattle.std.specs.Prelude.{◌≡◌, ℕ, ◌+◌, ◌-◌, ◌==◌, Bool, true, false, List, [], ◌∷◌, length, Option, Some, None, is_some, if◌then◌else◌}
use Rattle.std.specs.FinSet as set
use Rattle.std.specs.FinMap as map
use Rattle.rom_model.specs.Space.{ShownSpace, Stores}
use Rattle.rom_model.specs.State.{State, live, cap, state_after, replies_to, any_full}
use Rattle.rom_model.specs.Region.{Contents}
use Rattle.rom_model.specs.declared.call.Single.{Single}
use Rattle.rom_model.specs.declared.call.Single.TheVariants.{Enq, Deq, Add, Rem, Put, Del, Move}
use Rattle.rom_model.specs.declared.call.SingleReply.{SingleReply}
use Rattle.rom_heap.specs.Updates.{most_of_all}
use Rattle.rom_heap.specs.declared.fits.Room.{Room}

-- whether the set has a number after an update, as far as that is known; `told` is what was known before it
abbrev pub set_tells : ℕ → Single → Option Bool → Option Bool
set_tells key (Add k) told = if key == k then Some true else told
set_tells key (Rem k) told = if key == k then Some false else told
set_tells key other told = told

-- so of the map and a key
abbrev pub map_tells : ℕ → Single → Option Bool → Option Bool
map_tells key (Put k v) told = if key == k then Some true else told
map_tells key (Del k) told = if key == k then Some false else told
map_tells key other told = told

-- What is known after several of them, which are done in order: the last that tells something counts.
abbrev pub told_by : (Single → Option Bool → Option Bool) → Option Bool → List Single → Option Bool
told_by tells told [] = told
told_by tells told (c ∷ calls) = told_by tells (tells c told) calls

-- what is so where nothing is told, or what is told
abbrev pub told_or : Bool → Option Bool → Bool
told_or was None = was
told_or was (Some told) = told

-- whether the number or the key of an update is in its structure
abbrev pub is_there : State → Single → Bool
is_there s (Add k) = set.contains s.members k
is_there s (Rem k) = set.contains s.members k
is_there s (Put k v) = is_some (map.get s.pairs k)
is_there s (Del k) = is_some (map.get s.pairs k)
is_there s other = false

-- the room with one element more, where there is room for it
abbrev pub taken : Room → Option Room
taken room = if room.free == 0 then None else Some (record { free = room.free - 1; queue = room.queue })

-- the room with one element fewer
abbrev pub given : Room → Room
given room = record { free = room.free + 1; queue = room.queue }

-- The room after an update, or none where it would be refused.
abbrev pub next_room : Bool → Single → Room → Option Room
next_room there (Enq v) room = if room.free == 0 then None else Some (record { free = room.free - 1; queue = room.queue + 1 })
next_room there Deq room = if room.queue == 0 then Some room else Some (record { free = room.free + 1; queue = room.queue - 1 })
next_room there (Add k) room = if there then Some room else taken room
next_room there (Rem k) room = Some (if there then given room else room)
next_room there (Put k v) room = if there then Some room else taken room
next_room there (Del k) room = Some (if there then given room else room)
next_room there (Move a b d) room = Some room

-- So many more elements have room in the state, and its queue has so many.
pub record IsRoom (n : ℕ) (s : State) (room : Room) : Type 0 where
  pub free : room.free + live s ≡ cap n
  pub queue : room.queue ≡ length s.queue

-- The updates were taken in order, none was refused, and this is the room that they leave.
pub record LeavesRoom (n : ℕ) (s : State) (count : ℕ) (calls : List Single) (room : Room) : Type 0 where
  pub done : any_full (replies_to n s count calls) ≡ false
  pub left : IsRoom n (state_after n s count calls) room

-- What a group's members were told, and the region that they leave; none where one would be refused.
abbrev pub IsGroupDone : ℕ → State → ℕ → List Single → Option (List SingleReply) → List ℕ → Type 0
IsGroupDone n s count calls (Some told) new = (any_full (replies_to n s count calls) ≡ false) × (told ≡ replies_to n s count calls) × Contents n new (state_after n s count calls) (count + 1)
IsGroupDone n s count calls None new = (any_full (replies_to n s count calls) ≡ true) × Contents n new s (count + 1)

-- how many words they store at most, with that of the count
abbrev pub GroupStores : {M : Type 0} → ShownSpace M → ℕ → List Single → Option (List SingleReply) → M → M → Type 0
GroupStores shown n calls (Some told) old new = Stores shown (1 + most_of_all n calls told) old new
GroupStores shown n calls None old new = Stores shown 1 old new

-- The words stay, and nothing is stored.
pub record OnlyLooks {M : Type 0} (shown : ShownSpace M) (old new : M) : Type 0 where
  pub image : shown.image new ≡ shown.image old
  pub stores : Stores shown 0 old new
