-- Regions that elements are put into, one after another.
use Rattle.std.proofs.Common.{◌≡◌, ℕ, zero, suc, ◌+◌, ◌<◌, ◌≤◌, Bool, true, false, cond, T, List, [], ◌∷◌, length, get_or, sym, ◌∙◌, ap, subst, arith, length-append}
use Rattle.std.specs.Prelude.{Some}
use Rattle.std.specs.Bool.{MatchBool, OnTrue}
use Rattle.std.specs.Ordering.{is_eq, is_lt, nat_cmp, ordering_reverse}
use Rattle.std.specs.Cmp.{nat_cmp_total, tied_itself}
use Rattle.std.specs.FinMap as finite
use Rattle.std.specs.FinMap.Entries.{below_all, find, is_sorted}
use Rattle.std.specs.FinSet as set
use Rattle.std.proofs.lemmas.List.{length-map}
use Rattle.rom_map.specs.Map.{IsPut, with_pairs}
use Rattle.rom_map.specs.declared.map.Put.{Put}
use Rattle.rom_map.specs.declared.map.Put.TheVariants.{New, Was, Full}
use Rattle.rom_model.specs.Region.{Contents}
use Rattle.rom_model.specs.Space.{ShownSpace}
use Rattle.rom_model.specs.State.{State, Stamped, cap, empty, live, written}
use Rattle.rom_model.proofs.Contents.{len-rising, one_contents}
use Rattle.rom_queue.specs.Queue.{with_last, with_queue}
use Rattle.rom_rebuild.specs.Filling.{AreLists, HasRoomFor}
use Rattle.rom_rebuild.proofs.Entries.{first, second, less_is}
use Rattle.rom_rebuild.proofs.Taking.{insert_there, one_more}
use Rattle.rom_set.specs.Set.{IsInserted, KeepsUnlessNew, with_members}
use Rattle.rom_set.specs.declared.set.Inserted.{Inserted}
use Rattle.rom_set.specs.declared.set.Inserted.TheVariants as told

module _ {n : ℕ} {w : List ℕ} where
  -- whatever the region stands for has that room
  pub room_of : {m : ℕ} → HasRoomFor n w m → (s : State) (k : ℕ) → Contents n w s k → live s + m ≤ cap n
  room_of room s k held = omega (arith, room.fits, ap live (one_contents room.contents held).0)

  pub room_less : {m : ℕ} (j : ℕ) → j ≤ m → HasRoomFor n w m → HasRoomFor n w j
  room_less j le room = record { state = room.state; count = room.count; contents = room.contents; fits = omega (arith, room.fits, le) }

-- a value is pushed
pub pushed : {n : ℕ} {w v : List ℕ} {m : ℕ} (x : ℕ) (done : Bool) → 0 < m → HasRoomFor n w m → ((s : State) (k : ℕ) → Contents n w s k → MatchBool done (live s < cap n) (live s ≡ cap n)) →
    ((s : State) (k : ℕ) → Contents n w s k → OnTrue done (Contents n v (with_last s x) k)) → (s : State) (k : ℕ) → Contents n w s k → Contents n v (with_last s x) k
pushed x true some room had contents s k held = contents s k held
pushed x false some room had contents s k held = absurd (omega (arith, some, room_of room s k held, had s k held))

pub room_pushed : {n : ℕ} {w v : List ℕ} {m : ℕ} (x j : ℕ) → j + 1 ≤ m → HasRoomFor n w m → ((s : State) (k : ℕ) → Contents n w s k → Contents n v (with_last s x) k) → HasRoomFor n v j
room_pushed x j le room contents = record {
  state = with_last room.state x;
  count = room.count;
  contents = contents room.state room.count room.contents;
  fits = omega (arith, room.fits, le, length-append room.state.queue (x ∷ []));
}

-- a number is put in
module _ {M : Type 0} (shown : ShownSpace M) {n : ℕ} (below : ℕ) {old new : M} where
  pub inserted : (done : Inserted) (s : State) (k x : ℕ) → live s < cap n → Contents n (shown.image old) s k → IsInserted n s k x done (shown.image new) → KeepsUnlessNew shown n below done old new → Contents n (shown.image new) (with_members s (set.insert s.members x)) k
  inserted told.New s k x room held is kept = is.2
  inserted told.There s k x room held is kept = subst (λ ms. Contents n (shown.image new) (with_members s ms) k) (sym (insert_there s.members x is)) (subst (λ v. Contents n v s k) (sym kept.image) held)
  inserted told.Full s k x room held is kept = absurd (omega (arith, room, is.1))

pub room_inserted : {n : ℕ} {w v : List ℕ} {m : ℕ} (x j : ℕ) → j + 1 ≤ m → HasRoomFor n w m → ((s : State) (k : ℕ) → Contents n w s k → Contents n v (with_members s (set.insert s.members x)) k) → HasRoomFor n v j
room_inserted x j le room contents = record {
  state = with_members room.state (set.insert room.state.members x);
  count = room.count;
  contents = contents room.state room.count room.contents;
  fits = omega (arith, room.fits, le, set.len-insert nat_cmp_total room.state.members x, one_more (set.contains room.state.members x) (set.len room.state.members));
}

-- a key gets a value and a stamp
pub put : {n : ℕ} {v : List ℕ} (done : Put) (s : State) (k key value stamp : ℕ) → live s < cap n → IsPut n s k key value stamp done v → Contents n v (with_pairs s (written s.pairs stamp key value)) k
put New s k key value stamp room is = is.2
put (Was before) s k key value stamp room is = is.1
put Full s k key value stamp room is = absurd (omega (arith, room, is.1))

pub live_put : (s : State) (key value stamp : ℕ) → live (with_pairs s (written s.pairs stamp key value)) ≤ live s + 1
live_put s key value stamp = omega (arith, finite.len-insert nat_cmp_total s.pairs key (record { value = value; stamp = stamp }), one_more (finite.contains_key s.pairs key) (finite.len s.pairs))

-- the entry at an index is found by its key
below_at : (x : ℕ) (es : List (ℕ × Stamped)) (i : ℕ) (d : ℕ × Stamped) → T (below_all nat_cmp x es) → i < length es → T (is_lt (nat_cmp x (get_or es i d).0))
below_at x [] i d below lt = absurd (omega (arith, lt))
below_at x (e ∷ es) zero d below lt = first (is_lt (nat_cmp x e.0)) (below_all nat_cmp x es) below
below_at x (e ∷ es) (suc i) d below lt = below_at x es i d (second (is_lt (nat_cmp x e.0)) (below_all nat_cmp x es) below) (omega (arith, lt))

find_at : (es : List (ℕ × Stamped)) (i : ℕ) (d : ℕ × Stamped) → T (is_sorted nat_cmp es) → i < length es → find nat_cmp (get_or es i d).0 es ≡ Some (get_or es i d).1
find_at [] i d sorted lt = absurd (omega (arith, lt))
find_at (e ∷ es) zero d sorted lt = ap (λ o. cond (is_eq o) (Some e.1) (find nat_cmp e.0 es)) (tied_itself nat_cmp_total e.0)
find_at (e ∷ es) (suc i) d sorted lt =
    let x = get_or es i d in
    let below = below_at e.0 es i d (first (below_all nat_cmp e.0 es) (is_sorted nat_cmp es) sorted) (omega (arith, lt)) in
    let above : is_eq (nat_cmp x.0 e.0) ≡ false = ap is_eq (nat_cmp_total.antisymm x.0 e.0 ∙ ap ordering_reverse (less_is (nat_cmp e.0 x.0) below)) in
    ap (λ b. cond b (Some e.1) (find nat_cmp x.0 es)) above ∙ find_at es i d (second (below_all nat_cmp e.0 es) (is_sorted nat_cmp es) sorted) (omega (arith, lt))

pub get_at : (m : finite.FinMap nat_cmp Stamped) (i : ℕ) (d : ℕ × Stamped) → i < length (finite.entries m) → finite.get m (get_or (finite.entries m) i d).0 ≡ Some (get_or (finite.entries m) i d).1
get_at m i d lt = finite.get-entries m (get_or (finite.entries m) i d).0 ∙ find_at (finite.entries m) i d (finite.entries_sorted m) lt

-- a map is that of its entries
pub entries_make : (m : finite.FinMap nat_cmp Stamped) → finite.from_entries (finite.entries m) ≡ m
entries_make m = finite.same_map nat_cmp_total finite.nat_cmp-IsAntisymmetric _ _ (λ q. finite.get-from_entries nat_cmp_total (finite.entries m) q ∙ sym (finite.get-entries m q))

-- the states that a region stands for as it is filled
abbrev pub with_first : List ℕ → State
with_first values = with_queue empty values

abbrev pub with_second : List ℕ → List ℕ → State
with_second values numbers = with_members (with_first values) (set.from_list numbers)

-- Of the lists of a state that has room in a heap of this order there is room for each behind those before it.
module _ {s : State} {values numbers keys : List ℕ} (are : AreLists s values numbers keys) where
  lists_many : length values + length numbers + length keys ≡ live s
  lists_many =
      omega (arith, ap length are.queue, ap (λ ms. set.len ms) are.members, len-rising numbers are.rising, ap length are.keys_are, length-map (finite.entries s.pairs) (λ (e : ℕ × Stamped). e.0), finite.len-entries s.pairs)

  pub room_values : {m : ℕ} {w : List ℕ} {k : ℕ} → live s ≤ cap m → Contents m w empty k → HasRoomFor m w (length values)
  room_values {k = k} fits held = record { state = empty; count = k; contents = held; fits = omega (arith, lists_many, fits, set.len-empty nat_cmp, finite.len-empty nat_cmp Stamped) }

  pub room_numbers : {m : ℕ} {w : List ℕ} {k : ℕ} → live s ≤ cap m → Contents m w (with_first values) k → HasRoomFor m w (length numbers)
  room_numbers {k = k} fits held = record { state = with_first values; count = k; contents = held; fits = omega (arith, lists_many, fits, set.len-empty nat_cmp, finite.len-empty nat_cmp Stamped) }

  pub room_keys : {m : ℕ} {w : List ℕ} {k : ℕ} → live s ≤ cap m → Contents m w (with_second values numbers) k → HasRoomFor m w (length keys)
  room_keys {k = k} fits held = record { state = with_second values numbers; count = k; contents = held; fits = omega (arith, lists_many, fits, len-rising numbers are.rising, finite.len-empty nat_cmp Stamped) }

  -- and together they are the state
  pub all_lists : with_pairs (with_second values numbers) s.pairs ≡ s
  all_lists = λ i. record { queue = are.queue i; members = are.members i; pairs = s.pairs }
