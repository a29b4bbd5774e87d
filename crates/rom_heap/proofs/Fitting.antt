-- The room that is known of updates before they are done is the room that they leave.
use Rattle.std.proofs.Common.{◌≡◌, inl, inr, ℕ, ◌+◌, ◌-◌, ◌^◌, ◌<◌, ◌≤◌, Bool, true, false, cond, List, [], ◌∷◌, ◌++◌, length, take, drop, get_or, suc, drop-cons, refl, sym, ap, subst, ◌∙◌, arith, length-append, Some, None}
use Rattle.std.specs.Prelude.{Option, is_some, ◌==◌, ◌||◌, if◌then◌else◌}
use Rattle.std.specs.Ordering.{nat_cmp}
use Rattle.std.specs.Cmp.{nat_cmp_total}
use Rattle.std.specs.FinSet as set
use Rattle.std.specs.FinMap as finite
use Rattle.std.proofs.lemmas.Bool.{cases_lt}
use Rattle.std.proofs.lemmas.List.{take_more, take-append-drop}
use Rattle.std.proofs.lemmas.Bool.Decides.{nat_tests}
use Rattle.rom_model.specs.State.{State, Stamped, cap, value_of, written, deq, del, one, state_after, replies_to, is_full, any_full}
use Rattle.rom_model.specs.declared.call.Single.{Single}
use Rattle.rom_model.specs.declared.call.Single.TheVariants.{Enq, Deq, Add, Rem, Put, Del, Move}
use Rattle.rom_model.specs.declared.call.SingleReply.{SingleReply}
use Rattle.rom_model.specs.declared.call.SingleReply.TheVariants as reply
use Rattle.rom_set.specs.Set.{with_members}
use Rattle.rom_map.specs.Map.{with_pairs}
use Rattle.rom_queue.specs.Queue.{with_last}
use Rattle.rom_heap.specs.Fits.{is_there, given, next_room, IsRoom, LeavesRoom}
use Rattle.rom_heap.specs.declared.fits.Room.{Room}
use Rattle.rom_model.proofs.Nodes.{pow_small}
use Rattle.rom_heap.proofs.Steps.{enq_room, enq_full, add_there, add_new, add_full, rem_there, rem_absent, put_was, put_new, put_full}
use Rattle.rom_heap.proofs.Plan.{has_value, move_keeps}

-- no heap has room for more
pub cap_small : (n : ℕ) → n ≤ 16 → cap n < 2 ^ 62
cap_small n most =
    let small : 2 ^ (n - 4) ≤ 65536 = pow_small (n - 4) (omega (arith, most)) in
    omega (arith, small)

-- What an update of one structure comes to, by the room after it or none.
abbrev pub Outcome : ℕ → State × SingleReply → Option Room → Type 0
Outcome n done None = is_full done.1 ≡ true
Outcome n done (Some room) = (is_full done.1 ≡ false) × IsRoom n done.0 room

at_zero : {X : Type 0} (P : X → Type 0) (m : ℕ) (x y : X) → (m ≡ 0 → P x) → (0 < m → P y) → P (if m == 0 then x else y)
at_zero P m x y zero some = elim (cases_lt 0 m) [
  | inl lt ↦ let test : (m == 0) ≡ false = grind (arith, nat_tests) in subst P (sym (ap (λ b. if b then x else y) test)) (some lt)
  | inr le ↦ let is : m ≡ 0 = omega (arith, le) in let test : (m == 0) ≡ true = grind (arith, nat_tests) in subst P (sym (ap (λ b. if b then x else y) test)) (zero is)
]

set_some : (m : set.FinSet nat_cmp) (k : ℕ) → set.contains m k ≡ true → 0 < set.len m
set_some m k there = elim (cases_lt 0 (set.len m)) [
  | inl lt ↦ lt
  | inr le ↦ absurd (let no : true ≡ false = sym there ∙ (ap (λ x. set.contains x k) (set.empty_of_len m (omega (arith, le))) ∙ set.contains-empty nat_cmp k) in cc)
]

map_some : (m : finite.FinMap nat_cmp Stamped) (k : ℕ) → is_some (finite.get m k) ≡ true → 0 < finite.len m
map_some m k there = elim (cases_lt 0 (finite.len m)) [
  | inl lt ↦ lt
  | inr le ↦ absurd (let no : true ≡ false = sym there ∙ ap is_some (ap (λ x. finite.get x k) (finite.empty_of_len m (omega (arith, le))) ∙ finite.get-empty nat_cmp k) in cc)
]

module _ (n : ℕ) (s : State) (j : ℕ) (room : Room) (r : IsRoom n s room) where
  by_done : (done : State × SingleReply) (t : State) (told : SingleReply) (o : Option Room) → done ≡ (t, told) → Outcome n (t, told) o → Outcome n done o
  by_done done t told o is outcome = subst (λ d. Outcome n d o) (sym is) outcome

  refused : (done : State × SingleReply) (t : State) (told : SingleReply) → done ≡ (t, told) → is_full told ≡ true → is_full done.1 ≡ true
  refused done t told is full = ap (λ d. is_full d.1) is ∙ full

  enq_next : (v : ℕ) → Outcome n (one n s j (Enq v)) (next_room false (Enq v) room)
  enq_next v = at_zero (Outcome n (one n s j (Enq v))) room.free None (Some (record { free = room.free - 1; queue = room.queue + 1 }))
      (λ zero. refused (one n s j (Enq v)) s reply.Full (enq_full n s j v (omega (arith, r.free, zero))) refl)
      (λ some. by_done (one n s j (Enq v)) (with_last s v) reply.Queued (Some (record { free = room.free - 1; queue = room.queue + 1 })) (enq_room n s j v (omega (arith, r.free, some))) (
        refl,
        record {
          free = omega (arith, r.free, some, length-append s.queue (v ∷ []));
          queue = omega (arith, r.queue, length-append s.queue (v ∷ []));
        },
      ))

  deq_next : (q : List ℕ) → s.queue ≡ q → Outcome n (deq s q) (next_room false Deq room)
  deq_next [] is = at_zero (Outcome n (deq s [])) room.queue (Some room) (Some (record { free = room.free + 1; queue = room.queue - 1 })) (λ zero. (refl, r)) (λ some. absurd (omega (arith, some, r.queue, ap length is)))
  deq_next (v ∷ rest) is = at_zero (Outcome n (deq s (v ∷ rest))) room.queue (Some room) (Some (record { free = room.free + 1; queue = room.queue - 1 }))
      (λ zero. absurd (omega (arith, zero, r.queue, ap length is)))
      (λ some. (refl, record { free = omega (arith, r.free, ap length is); queue = omega (arith, r.queue, ap length is) }))

  add_next : (k : ℕ) (there : Bool) → set.contains s.members k ≡ there → Outcome n (one n s j (Add k)) (next_room there (Add k) room)
  add_next k true is = by_done (one n s j (Add k)) s reply.Present (Some room) (add_there n s j k is) (refl, r)
  add_next k false is = at_zero (Outcome n (one n s j (Add k))) room.free None (Some (record { free = room.free - 1; queue = room.queue }))
      (λ zero. refused (one n s j (Add k)) s reply.Full (add_full n s j k is (omega (arith, r.free, zero))) refl)
      (λ some. by_done (one n s j (Add k)) (with_members s (set.insert s.members k)) reply.Added (Some (record { free = room.free - 1; queue = room.queue })) (add_new n s j k is (omega (arith, r.free, some))) (
        refl,
        record {
          free = omega (arith, r.free, some, set.len-insert nat_cmp_total s.members k ∙ ap (λ b. cond b (set.len s.members) (set.len s.members + 1)) is);
          queue = r.queue;
        },
      ))

  rem_next : (k : ℕ) (there : Bool) → set.contains s.members k ≡ there → Outcome n (one n s j (Rem k)) (next_room there (Rem k) room)
  rem_next k true is = by_done (one n s j (Rem k)) (with_members s (set.remove s.members k)) reply.Removed (Some (given room)) (rem_there n s j k is) (
    refl,
    record {
      free = omega (arith, r.free, set_some s.members k is, set.len-remove nat_cmp_total s.members k ∙ ap (λ b. cond b (set.len s.members - 1) (set.len s.members)) is);
      queue = r.queue;
    },
  )
  rem_next k false is = by_done (one n s j (Rem k)) s reply.Absent (Some room) (rem_absent n s j k is) (refl, r)

  -- what a put writes
  abbrev now : ℕ → Stamped
  now v = record { value = v; stamp = j + 1 }

  there : (k : ℕ) (o : Option ℕ) → value_of s k ≡ o → is_some (finite.get s.pairs k) ≡ is_some o
  there k o is = sym (has_value s k) ∙ ap is_some is

  len_put : (k : ℕ) (v : Stamped) (o : Option ℕ) → value_of s k ≡ o → finite.len (finite.insert s.pairs k v) ≡ cond (is_some o) (finite.len s.pairs) (finite.len s.pairs + 1)
  len_put k v o is = finite.len-insert nat_cmp_total s.pairs k v ∙ ap (λ b. cond b (finite.len s.pairs) (finite.len s.pairs + 1)) (there k o is)

  len_del : (k : ℕ) (o : Option ℕ) → value_of s k ≡ o → finite.len (finite.remove s.pairs k) ≡ cond (is_some o) (finite.len s.pairs - 1) (finite.len s.pairs)
  len_del k o is = finite.len-remove nat_cmp_total s.pairs k ∙ ap (λ b. cond b (finite.len s.pairs - 1) (finite.len s.pairs)) (there k o is)

  put_next : (k v : ℕ) (o : Option ℕ) → value_of s k ≡ o → Outcome n (one n s j (Put k v)) (next_room (is_some o) (Put k v) room)
  put_next k v (Some u) is = by_done (one n s j (Put k v)) (with_pairs s (written s.pairs (j + 1) k v)) (reply.Was u) (Some room) (put_was n s j (j + 1) k v u refl is) (refl, record { free = omega (arith, r.free, len_put k (now v) (Some u) is); queue = r.queue })
  put_next k v None is = at_zero (Outcome n (one n s j (Put k v))) room.free None (Some (record { free = room.free - 1; queue = room.queue }))
      (λ zero. refused (one n s j (Put k v)) s reply.Full (put_full n s j k v is (omega (arith, r.free, zero))) refl)
      (λ some. by_done (one n s j (Put k v)) (with_pairs s (written s.pairs (j + 1) k v)) reply.NoPrior (Some (record { free = room.free - 1; queue = room.queue })) (put_new n s j (j + 1) k v refl is (omega (arith, r.free, some))) (refl, record { free = omega (arith, r.free, some, len_put k (now v) None is); queue = r.queue }))

  del_next : (k : ℕ) (o : Option ℕ) → value_of s k ≡ o → Outcome n (del s k o) (next_room (is_some o) (Del k) room)
  del_next k (Some u) is = (refl, record { free = omega (arith, r.free, map_some s.pairs k (there k (Some u) is), len_del k (Some u) is); queue = r.queue })
  del_next k None is = (refl, r)

  -- the room after an update is the known one, and where there is none it is refused
  pub next_is : (c : Single) → Outcome n (one n s j c) (next_room (is_there s c) c room)
  next_is (Enq v) = enq_next v
  next_is Deq = deq_next s.queue refl
  next_is (Add k) = add_next k (set.contains s.members k) refl
  next_is (Rem k) = rem_next k (set.contains s.members k) refl
  next_is (Put k v) = subst (λ b. Outcome n (one n s j (Put k v)) (next_room b (Put k v) room)) (has_value s k) (put_next k v (value_of s k) refl)
  next_is (Del k) = subst (λ b. Outcome n (one n s j (Del k)) (next_room b (Del k) room)) (has_value s k) (del_next k (value_of s k) refl)
  next_is (Move a b d) =
      let k = move_keeps n s j a b d in
      (k.1, record { free = omega (arith, r.free, ap length k.0.queue, ap set.len k.0.members, k.0.len); queue = r.queue ∙ ap length (sym k.0.queue) })

module _ (n j : ℕ) where
  pub state_append : (xs ys : List Single) (s : State) → state_after n s j (xs ++ ys) ≡ state_after n (state_after n s j xs) j ys
  state_append [] ys s = refl
  state_append (c ∷ xs) ys s = state_append xs ys (one n s j c).0

  or_all : (a b c : Bool) → (a || (b || c)) ≡ ((a || b) || c)
  or_all true b c = refl
  or_all false b c = refl

  full_append : (xs ys : List Single) (s : State) → any_full (replies_to n s j (xs ++ ys)) ≡ (any_full (replies_to n s j xs) || any_full (replies_to n (state_after n s j xs) j ys))
  full_append [] ys s = refl
  full_append (c ∷ xs) ys s = ap (λ b. is_full (one n s j c).1 || b) (full_append xs ys (one n s j c).0) ∙ or_all (is_full (one n s j c).1) (any_full (replies_to n (one n s j c).0 j xs)) _

  pub leaves_none : (s : State) (room : Room) → IsRoom n s room → LeavesRoom n s j [] room
  leaves_none s room is = record { done = refl; left = is }

  -- one more is done
  pub leaves_more : (s : State) (before : List Single) (room : Room) (c : Single) (next : Room) → LeavesRoom n s j before room → next_room (is_there (state_after n s j before) c) c room ≡ Some next → LeavesRoom n s j (before ++ c ∷ []) next
  leaves_more s before room c next l is =
      let t : State = state_after n s j before in
      let o : Outcome n (one n t j c) (Some next) = subst (λ o. Outcome n (one n t j c) o) is (next_is n t j room l.left c) in
      record {
        done = full_append before (c ∷ []) s ∙ (λ i. l.done i || (o.0 i || false));
        left = subst (λ x. IsRoom n x next) (sym (state_append before (c ∷ []) s)) o.1;
      }

  -- one is refused
  pub refuses : (s : State) (before : List Single) (room : Room) (c : Single) (rest : List Single) → LeavesRoom n s j before room → next_room (is_there (state_after n s j before) c) c room ≡ None → any_full (replies_to n s j (before ++ c ∷ rest)) ≡ true
  refuses s before room c rest l is =
      let t : State = state_after n s j before in
      let o : is_full (one n t j c).1 ≡ true = subst (λ o. Outcome n (one n t j c) o) is (next_is n t j room l.left c) in
      full_append before (c ∷ rest) s ∙ (λ i. l.done i || (o i || any_full (replies_to n (one n t j c).0 j rest)))

  -- so of the updates of a list, up to the one at an index
  pub leaves_next : (s : State) (calls : List Single) (i : ℕ) (d : Single) (room next : Room) (there : Bool) (o : Option Room) → i < length calls → LeavesRoom n s j (take i calls) room →
      (any_full (replies_to n s j (take i calls)) ≡ false → there ≡ is_there (state_after n s j (take i calls)) (get_or calls i d)) → o ≡ next_room there (get_or calls i d) room → o ≡ Some next → LeavesRoom n s j (take (i + 1) calls) next
  leaves_next s calls i d room next there o lt l is room_is some =
      subst (λ cs. LeavesRoom n s j cs next) (sym (take_more calls i d lt)) (leaves_more s (take i calls) room (get_or calls i d) next l
      (ap (λ b. next_room b (get_or calls i d) room) (sym (is l.done)) ∙ (sym room_is ∙ some)))

  pub refuses_all : (s : State) (calls : List Single) (i : ℕ) (d : Single) (room : Room) (there : Bool) (o : Option Room) → i < length calls → LeavesRoom n s j (take i calls) room →
      (any_full (replies_to n s j (take i calls)) ≡ false → there ≡ is_there (state_after n s j (take i calls)) (get_or calls i d)) → o ≡ next_room there (get_or calls i d) room → o ≡ None → any_full (replies_to n s j calls) ≡ true
  refuses_all s calls i d room there o lt l is room_is none =
      let parts : take i calls ++ get_or calls i d ∷ drop (suc i) calls ≡ calls = ap (λ cs. take i calls ++ cs) (sym (drop-cons calls i d lt)) ∙ take-append-drop i calls in
      ap (λ cs. any_full (replies_to n s j cs)) (sym parts) ∙ refuses s (take i calls) room (get_or calls i d) (drop (suc i) calls) l (ap (λ b. next_room b (get_or calls i d) room) (sym (is l.done)) ∙ (sym room_is ∙ none))
