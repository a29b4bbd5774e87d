-- What is known of updates before they are done is what they do.
use Rattle.std.proofs.Common.{◌≡◌, ℕ, ◌+◌, ◌-◌, ◌^◌, Bool, true, false, cond, List, [], ◌∷◌, refl, sym, ap, ◌∙◌, Some, None}
use Rattle.std.specs.Prelude.{Option, option_map, is_some, nat_lt, ◌==◌, ◌||◌, ◌&&◌, not, if◌then◌else◌}
use Rattle.std.specs.Ordering.{nat_cmp, eq_by_cmp}
use Rattle.std.specs.Cmp.{unsigned_tied, nat_cmp_total}
use Rattle.std.specs.FinSet as set
use Rattle.std.specs.FinMap as finite
use Rattle.std.proofs.lemmas.Bool.{eqb-true}
use Rattle.rom_model.specs.State.{State, Stamped, has_room, value_of, deq, put, del, shift, transfer, one, state_after, replies_to, is_full, any_full}
use Rattle.rom_model.specs.declared.call.Single.{Single}
use Rattle.rom_model.specs.declared.call.Single.TheVariants.{Enq, Deq, Add, Rem, Put, Del, Move}
use Rattle.rom_model.specs.declared.call.SingleReply.{SingleReply}
use Rattle.rom_map.specs.Map.{with_pairs}
use Rattle.rom_heap.specs.Fits.{set_tells, map_tells, told_by, told_or}

-- the step of an update of one structure, as a plain state and reply
abbrev pub Done : Type 0
Done = State × SingleReply

never : {P : Type 0} → true ≡ false → P
never is = absurd (let no : true ≡ false = is in cc)

-- whether the set and the map have a number after an update that is not refused
abbrev set_now : ℕ → Single → Bool → Bool
set_now key (Add k) was = (key == k) || was
set_now key (Rem k) was = not (key == k) && was
set_now key other was = was

abbrev map_now : ℕ → Single → Bool → Bool
map_now key (Put k v) was = (key == k) || was
map_now key (Del k) was = not (key == k) && was
map_now key other was = was

put_in : (b was : Bool) (told : Option Bool) → told_or was (if b then Some true else told) ≡ (b || told_or was told)
put_in true was told = refl
put_in false was told = refl

took_out : (b was : Bool) (told : Option Bool) → told_or was (if b then Some false else told) ≡ (not b && told_or was told)
took_out true was told = refl
took_out false was told = refl

set_tells_now : (key : ℕ) (c : Single) (was : Bool) (told : Option Bool) → told_or was (set_tells key c told) ≡ set_now key c (told_or was told)
set_tells_now key (Add k) was told = put_in (key == k) was told
set_tells_now key (Rem k) was told = took_out (key == k) was told
set_tells_now key (Enq v) was told = refl
set_tells_now key Deq was told = refl
set_tells_now key (Put k v) was told = refl
set_tells_now key (Del k) was told = refl
set_tells_now key (Move a b d) was told = refl

map_tells_now : (key : ℕ) (c : Single) (was : Bool) (told : Option Bool) → told_or was (map_tells key c told) ≡ map_now key c (told_or was told)
map_tells_now key (Put k v) was told = put_in (key == k) was told
map_tells_now key (Del k) was told = took_out (key == k) was told
map_tells_now key (Enq v) was told = refl
map_tells_now key Deq was told = refl
map_tells_now key (Add k) was told = refl
map_tells_now key (Rem k) was told = refl
map_tells_now key (Move a b d) was told = refl

-- a key has a value where it is in the map
value_kept : (o : Option Stamped) → is_some (option_map (λ kept. kept.value) o) ≡ is_some o
value_kept (Some kept) = refl
value_kept None = refl

pub has_value : (s : State) (key : ℕ) → is_some (value_of s key) ≡ is_some (finite.get s.pairs key)
has_value s key = value_kept (finite.get s.pairs key)

-- What a move leaves: the queue, the set, which keys there are, and how many.
pub record KeepsKeys (s t : State) : Type 0 where
  pub queue : t.queue ≡ s.queue
  pub members : t.members ≡ s.members
  pub has : (key : ℕ) → is_some (finite.get t.pairs key) ≡ is_some (finite.get s.pairs key)
  pub len : finite.len t.pairs ≡ finite.len s.pairs

keeps_all : (s : State) → KeepsKeys s s
keeps_all s = record { queue = refl; members = refl; has = λ key. refl; len = refl }

-- another value for a key that is there
has_again : (b : Bool) (v : Stamped) (o : Option Stamped) → (b ≡ true → is_some o ≡ true) → is_some (cond b (Some v) o) ≡ is_some o
has_again true v o there = sym (there refl)
has_again false v o there = refl

keeps_value : (s : State) (k : ℕ) (v : Stamped) → is_some (finite.get s.pairs k) ≡ true → KeepsKeys s (with_pairs s (finite.insert s.pairs k v))
keeps_value s k v is = record {
  queue = refl;
  members = refl;
  has = λ key. ap is_some (finite.get-insert nat_cmp_total s.pairs k v key) ∙ has_again (eq_by_cmp nat_cmp key k) v (finite.get s.pairs key) (λ same.
      ap (λ q. is_some (finite.get s.pairs q)) (eqb-true key k (sym (unsigned_tied key k) ∙ same)) ∙ is);
  len = finite.len-insert nat_cmp_total s.pairs k v ∙ ap (λ b. cond b (finite.len s.pairs) (finite.len s.pairs + 1)) is;
}

keeps_then : {s t u : State} → KeepsKeys s t → KeepsKeys t u → KeepsKeys s u
keeps_then one two = record { queue = two.queue ∙ one.queue; members = two.members ∙ one.members; has = λ key. two.has key ∙ one.has key; len = two.len ∙ one.len }

keeps_two : (s : State) (a b : ℕ) (x y : Stamped) → is_some (finite.get s.pairs a) ≡ true → is_some (finite.get s.pairs b) ≡ true → KeepsKeys s (with_pairs s (finite.insert (finite.insert s.pairs a x) b y))
keeps_two s a b x y source target =
    let one = keeps_value s a x source in
    keeps_then one (keeps_value (with_pairs s (finite.insert s.pairs a x)) b y (one.has b ∙ target))

-- a choice, whichever it is
on_if : (P : Done → Type 0) (b : Bool) (x y : Done) → P x → P y → P (if b then x else y)
on_if P true x y one two = one
on_if P false x y one two = two

on_if_is : (P : Done → Type 0) (b : Bool) (x y : Done) → (b ≡ true → P x) → (b ≡ false → P y) → P (if b then x else y)
on_if_is P true x y one two = one refl
on_if_is P false x y one two = two refl

abbrev pub Kept : State → Done → Type 0
Kept s done = KeepsKeys s done.0 × (is_full done.1 ≡ false)

shift_keeps : (s : State) (stamp a b d u w : ℕ) → is_some (finite.get s.pairs a) ≡ true → is_some (finite.get s.pairs b) ≡ true → Kept s (shift s stamp a b d u w)
shift_keeps s stamp a b d u w source target =
    on_if (Kept s) (nat_lt u d) _ _ (keeps_all s, refl) (on_if (Kept s) (a == b) _ _ (keeps_all s, refl)
    (on_if (Kept s) (nat_lt (w + d) (2 ^ 64)) _ _ (keeps_two s a b (record { value = u - d; stamp = stamp }) (record { value = w + d; stamp = stamp }) source target, refl) (keeps_all s, refl)))

transfer_keeps : (s : State) (stamp a b d : ℕ) (o p : Option ℕ) → value_of s a ≡ o → value_of s b ≡ p → Kept s (transfer s stamp a b d o p)
transfer_keeps s stamp a b d (Some u) (Some w) source target = shift_keeps s stamp a b d u w (sym (has_value s a) ∙ ap is_some source) (sym (has_value s b) ∙ ap is_some target)
transfer_keeps s stamp a b d (Some u) None source target = (keeps_all s, refl)
transfer_keeps s stamp a b d None p source target = (keeps_all s, refl)

pub move_keeps : (n : ℕ) (s : State) (j a b d : ℕ) → Kept s (one n s j (Move a b d))
move_keeps n s j a b d = transfer_keeps s (j + 1) a b d (value_of s a) (value_of s b) refl refl

there_or : (b was : Bool) → (b ≡ true → was ≡ true) → was ≡ (b || was)
there_or true was there = there refl
there_or false was there = refl

absent_and : (b was : Bool) → (b ≡ true → was ≡ false) → was ≡ (not b && was)
absent_and true was away = away refl
absent_and false was away = refl

-- the set after an update that is not refused
module _ (n : ℕ) (s : State) (j key : ℕ) where
  abbrev HasNumber : Bool → Done → Type 0
  HasNumber is done = is_full done.1 ≡ false → set.contains done.0.members key ≡ is

  set_deq : (q : List ℕ) → HasNumber (set.contains s.members key) (deq s q)
  set_deq [] = λ kept. refl
  set_deq (v ∷ rest) = λ kept. refl

  set_put : (stamp k v : ℕ) (o : Option ℕ) → HasNumber (set.contains s.members key) (put n s stamp k v o)
  set_put stamp k v (Some u) = λ kept. refl
  set_put stamp k v None = on_if (HasNumber (set.contains s.members key)) (has_room n s) _ _ (λ kept. refl) (λ full. never full)

  set_del : (k : ℕ) (o : Option ℕ) → HasNumber (set.contains s.members key) (del s k o)
  set_del k (Some u) = λ kept. refl
  set_del k None = λ kept. refl

  pub set_step : (c : Single) → HasNumber (set_now key c (set.contains s.members key)) (one n s j c)
  set_step (Enq v) = on_if (HasNumber (set.contains s.members key)) (has_room n s) _ _ (λ kept. refl) (λ full. never full)
  set_step Deq = set_deq s.queue
  set_step (Add k) =
      let P : Done → Type 0 = HasNumber ((key == k) || set.contains s.members key) in
      on_if_is P (set.contains s.members k) _ _ (λ there kept. there_or (key == k) (set.contains s.members key) (λ same. ap (set.contains s.members) (eqb-true key k same) ∙ there))
      (λ away. on_if P (has_room n s) _ _ (λ kept. set.contains-insert nat_cmp_total s.members k key ∙ ap (λ b. b || set.contains s.members key) (unsigned_tied key k)) (λ full. never full))
  set_step (Rem k) =
      let P : Done → Type 0 = HasNumber (not (key == k) && set.contains s.members key) in
      on_if_is P (set.contains s.members k) _ _ (λ there kept. set.contains-remove nat_cmp_total s.members k key ∙ ap (λ b. not b && set.contains s.members key) (unsigned_tied key k))
      (λ away kept. absent_and (key == k) (set.contains s.members key) (λ same. ap (set.contains s.members) (eqb-true key k same) ∙ away))
  set_step (Put k v) = set_put (j + 1) k v (value_of s k)
  set_step (Del k) = set_del k (value_of s k)
  set_step (Move a b d) = λ kept. ap (λ m. set.contains m key) (move_keeps n s j a b d).0.members

some_or : (b : Bool) (v : Stamped) (o : Option Stamped) → is_some (cond b (Some v) o) ≡ (b || is_some o)
some_or true v o = refl
some_or false v o = refl

none_and : (b : Bool) (o : Option Stamped) → is_some (cond b None o) ≡ (not b && is_some o)
none_and true o = refl
none_and false o = refl

-- the map's keys after an update that is not refused
module _ (n : ℕ) (s : State) (j key : ℕ) where
  abbrev HasKey : Bool → Done → Type 0
  HasKey is done = is_full done.1 ≡ false → is_some (finite.get done.0.pairs key) ≡ is

  abbrev had : Bool
  had = is_some (finite.get s.pairs key)

  map_deq : (q : List ℕ) → HasKey had (deq s q)
  map_deq [] = λ kept. refl
  map_deq (v ∷ rest) = λ kept. refl

  inserted : (k : ℕ) (v : Stamped) → is_some (finite.get (finite.insert s.pairs k v) key) ≡ ((key == k) || had)
  inserted k v = ap is_some (finite.get-insert nat_cmp_total s.pairs k v key) ∙ (some_or (eq_by_cmp nat_cmp key k) v (finite.get s.pairs key) ∙ ap (λ b. b || had) (unsigned_tied key k))

  map_put : (stamp k v : ℕ) (o : Option ℕ) → HasKey ((key == k) || had) (put n s stamp k v o)
  map_put stamp k v (Some u) = λ kept. inserted k (record { value = v; stamp = stamp })
  map_put stamp k v None = on_if (HasKey ((key == k) || had)) (has_room n s) _ _ (λ kept. inserted k (record { value = v; stamp = stamp })) (λ full. never full)

  map_del : (k : ℕ) (o : Option ℕ) → value_of s k ≡ o → HasKey (not (key == k) && had) (del s k o)
  map_del k (Some u) is = λ kept. ap is_some (finite.get-remove nat_cmp_total s.pairs k key) ∙ (none_and (eq_by_cmp nat_cmp key k) (finite.get s.pairs key) ∙ ap (λ b. not b && had) (unsigned_tied key k))
  map_del k None is = λ kept. absent_and (key == k) had (λ same. ap (λ q. is_some (finite.get s.pairs q)) (eqb-true key k same) ∙ (sym (has_value s k) ∙ ap is_some is))

  pub map_step : (c : Single) → HasKey (map_now key c had) (one n s j c)
  map_step (Enq v) = on_if (HasKey had) (has_room n s) _ _ (λ kept. refl) (λ full. never full)
  map_step Deq = map_deq s.queue
  map_step (Add k) = on_if (HasKey had) (set.contains s.members k) _ _ (λ kept. refl) (on_if (HasKey had) (has_room n s) _ _ (λ kept. refl) (λ full. never full))
  map_step (Rem k) = on_if (HasKey had) (set.contains s.members k) _ _ (λ kept. refl) (λ kept. refl)
  map_step (Put k v) = map_put (j + 1) k v (value_of s k)
  map_step (Del k) = map_del k (value_of s k) refl
  map_step (Move a b d) = λ kept. (move_keeps n s j a b d).0.has key

neither : (a b : Bool) → (a || b) ≡ false → (a ≡ false) × (b ≡ false)
neither true b is = never is
neither false b is = (refl, is)

-- What is told of updates that are done in order is so after them.
module _ (n j : ℕ) (tells : Single → Option Bool → Option Bool) (now : Single → Bool → Bool) (has : State → Bool) (tells_now : (c : Single) (was : Bool) (told : Option Bool) → told_or was (tells c told) ≡ now c (told_or was told))
    (step : (s : State) (c : Single) → is_full (one n s j c).1 ≡ false → has (one n s j c).0 ≡ now c (has s)) (was : Bool) where
  told_run : (calls : List Single) (s : State) (told : Option Bool) → any_full (replies_to n s j calls) ≡ false → told_or was told ≡ has s → told_or was (told_by tells told calls) ≡ has (state_after n s j calls)
  told_run [] s told done is = is
  told_run (c ∷ calls) s told done is =
      let both = neither (is_full (one n s j c).1) (any_full (replies_to n (one n s j c).0 j calls)) done in
      told_run calls (one n s j c).0 (tells c told) both.1 (tells_now c was told ∙ (ap (now c) is ∙ sym (step s c both.0)))

pub set_is : (n : ℕ) (s : State) (j key : ℕ) (calls : List Single) → any_full (replies_to n s j calls) ≡ false → told_or (set.contains s.members key) (told_by (set_tells key) None calls) ≡ set.contains (state_after n s j calls).members key
set_is n s j key calls done = told_run n j (set_tells key) (set_now key) (λ t. set.contains t.members key) (set_tells_now key) (λ t c. set_step n t j key c) (set.contains s.members key) calls s None done refl

pub map_is : (n : ℕ) (s : State) (j key : ℕ) (calls : List Single) → any_full (replies_to n s j calls) ≡ false →
    told_or (is_some (finite.get s.pairs key)) (told_by (map_tells key) None calls) ≡ is_some (finite.get (state_after n s j calls).pairs key)
map_is n s j key calls done = told_run n j (map_tells key) (map_now key) (λ t. is_some (finite.get t.pairs key)) (map_tells_now key) (λ t c. map_step n t j key c) (is_some (finite.get s.pairs key)) calls s None done refl
