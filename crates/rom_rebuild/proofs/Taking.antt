-- What the elements of a script make of a state that has room for them.
use Rattle.std.proofs.Common.{◌≡◌, ◌≢◌, ℕ, ◌+◌, ◌/◌, ◌<◌, ◌≤◌, Bool, true, false, cond, List, [], ◌∷◌, ◌++◌, map, length, refl, sym, ◌∙◌, ap, subst, arith, length-append, append_assoc, append-nil}
use Rattle.std.specs.Prelude.{◌==◌, ◌||◌, Option, Some, None, option_map, if◌then◌else◌}
use Rattle.std.specs.List.{AllByRecursion}
use Rattle.std.specs.Ordering.{nat_cmp, eq_by_cmp}
use Rattle.std.specs.Cmp.{nat_cmp_total, unsigned_tied}
use Rattle.std.specs.FinSet as set
use Rattle.std.specs.FinMap as finite
use Rattle.std.proofs.lemmas.Bool.{lt-ltb}
use Rattle.std.proofs.lemmas.Bool.Decides.{nat_tests}
use Rattle.rom_model.specs.State.{State, Stamped, cap, has_room, live, one, put, value_of, written}
use Rattle.rom_model.specs.declared.call.SingleReply.{SingleReply}
use Rattle.rom_model.specs.declared.call.SingleReply.TheVariants as told
use Rattle.rom_rebuild.specs.declared.elements.element.Element.{Element}
use Rattle.rom_rebuild.specs.declared.elements.element.Element.TheVariants.{Value, Member, Pair}
use Rattle.rom_rebuild.specs.Lines.{insertion_of}

-- An element is put in at a place that eight elements have, as a group of them has one. The place goes into a stamp alone.
-- the state after some elements, of which the first has that number
abbrev pub after : ℕ → State → ℕ → List Element → State
after n s k [] = s
after n s k (e ∷ es) = after n (one n s (k / 8) (insertion_of e)).0 (k + 1) es

-- what each of them is told
abbrev pub told_each : ℕ → State → ℕ → List Element → List SingleReply
told_each n s k [] = []
told_each n s k (e ∷ es) = (one n s (k / 8) (insertion_of e)).1 ∷ told_each n (one n s (k / 8) (insertion_of e)).0 (k + 1) es

-- none is told that the heap is full
abbrev pub NoneFull : ℕ → State → ℕ → List Element → Type 0
NoneFull n s k es = AllByRecursion (λ r. r ≢ told.Full) (told_each n s k es)

-- the state after one of them
abbrev next_of : ℕ → State → ℕ → Element → State
next_of n s k e = (one n s (k / 8) (insertion_of e)).0

pub after_append : (n : ℕ) (s : State) (k : ℕ) (xs ys : List Element) → after n s k (xs ++ ys) ≡ after n (after n s k xs) (k + length xs) ys
after_append n s k [] ys = let e : k ≡ k + 0 = omega arith in ap (λ m. after n s m ys) e
after_append n s k (e ∷ xs) ys =
    let next : (k + 1) + length xs ≡ k + length (e ∷ xs) = omega arith in
    after_append n (next_of n s k e) (k + 1) xs ys ∙ ap (λ m. after n (after n (next_of n s k e) (k + 1) xs) m ys) next

pub none_append : (n : ℕ) (s : State) (k : ℕ) (xs ys : List Element) → NoneFull n s k xs → NoneFull n (after n s k xs) (k + length xs) ys → NoneFull n s k (xs ++ ys)
none_append n s k [] ys first second = let e : k + 0 ≡ k = omega arith in subst (λ m. NoneFull n s m ys) e second
none_append n s k (e ∷ xs) ys first second =
    let next : k + length (e ∷ xs) ≡ (k + 1) + length xs = omega arith in
    (first.0, none_append n (next_of n s k e) (k + 1) xs ys first.1 (subst (λ m. NoneFull n (after n (next_of n s k e) (k + 1) xs) m ys) next second))

-- and the other way round
pub none_parts : (n : ℕ) (s : State) (k : ℕ) (xs ys : List Element) → NoneFull n s k (xs ++ ys) → NoneFull n s k xs × NoneFull n (after n s k xs) (k + length xs) ys
none_parts n s k [] ys none = let e : k ≡ k + 0 = omega arith in (tt, subst (λ m. NoneFull n s m ys) e none)
none_parts n s k (e ∷ xs) ys none =
    let next : (k + 1) + length xs ≡ k + length (e ∷ xs) = omega arith in
    let rest = none_parts n (next_of n s k e) (k + 1) xs ys none.1 in
    ((none.0, rest.0), subst (λ m. NoneFull n (after n (next_of n s k e) (k + 1) xs) m ys) next rest.1)

room : (n : ℕ) (s : State) → live s < cap n → has_room n s ≡ true
room n s lt = lt-ltb (live s) (cap n) lt

-- What some elements leave of a state: how much more it has at most, and that no reply tells that the heap is full.
pub record Taken (n : ℕ) (s : State) (k : ℕ) (es : List Element) : Type 0 where
  pub few : live (after n s k es) ≤ live s + length es
  pub none : NoneFull n s k es

-- the queue
queued : (n : ℕ) (s : State) (k v : ℕ) → live s < cap n → (one n s k (insertion_of (Value v)) ≡ (record s { queue = s.queue ++ v ∷ [] }, told.Queued))
queued n s k v lt = ap (λ t. if t then (record s { queue = s.queue ++ v ∷ [] }, told.Queued) else (s, told.Full)) (room n s lt)

pub record Queued (n : ℕ) (s : State) (k : ℕ) (vs : List ℕ) : Type 0 where
  pub taken : Taken n s k (map Value vs)
  pub queue : (after n s k (map Value vs)).queue ≡ s.queue ++ vs
  pub members : (after n s k (map Value vs)).members ≡ s.members
  pub pairs : (after n s k (map Value vs)).pairs ≡ s.pairs

pub queue_all : (n : ℕ) (s : State) (k : ℕ) (vs : List ℕ) → live s + length vs ≤ cap n → Queued n s k vs
queue_all n s k [] fits = record {
  taken = record { few = omega arith; none = tt };
  queue = sym (append-nil s.queue);
  members = refl;
  pairs = refl;
}
queue_all n s k (v ∷ vs) fits =
    let next : State = record s { queue = s.queue ++ v ∷ [] } in
    let step = queued n s (k / 8) v (omega (arith, fits)) in
    let more : live next ≡ live s + 1 = omega (arith, length-append s.queue (v ∷ [])) in
    let rest = queue_all n next (k + 1) vs (omega (arith, fits, more)) in
    let same : after n s k (map Value (v ∷ vs)) ≡ after n next (k + 1) (map Value vs) = ap (λ (d : State × SingleReply). after n d.0 (k + 1) (map Value vs)) step in
    let here : (one n s (k / 8) (insertion_of (Value v))).1 ≡ told.Queued = ap (λ (d : State × SingleReply). d.1) step in
    record {
      taken = record {
        few = omega (arith, ap live same, rest.taken.few, more);
        none = (
          λ is. let never : told.Queued ≡ told.Full = sym here ∙ is in cc,
          subst (λ (t : State). NoneFull n t (k + 1) (map Value vs)) (sym (ap (λ (d : State × SingleReply). d.0) step)) rest.taken.none,
        );
      };
      queue = ap (λ (t : State). t.queue) same ∙ rest.queue ∙ append_assoc s.queue (v ∷ []) vs;
      members = ap (λ (t : State). t.members) same ∙ rest.members;
      pairs = ap (λ (t : State). t.pairs) same ∙ rest.pairs;
    }

-- the set
pub tied : (q k : ℕ) → eq_by_cmp nat_cmp q k ≡ true → q ≡ k
tied q k test = let same : (q == k) ≡ true = sym (unsigned_tied q k) ∙ test in grind (arith, nat_tests)

pub insert_there : (m : set.FinSet nat_cmp) (k : ℕ) → set.contains m k ≡ true → set.insert m k ≡ m
insert_there m k has = set.same_set nat_cmp_total finite.nat_cmp-IsAntisymmetric (set.insert m k) m (λ q. set.contains-insert nat_cmp_total m k q ∙ either q (eq_by_cmp nat_cmp q k) refl)
  where
    either : (q : ℕ) (t : Bool) → eq_by_cmp nat_cmp q k ≡ t → (t || set.contains m q) ≡ set.contains m q
    either q true is = sym (ap (set.contains m) (tied q k is) ∙ has)
    either q false is = refl

-- one number is put in
pub record AddedOne (n : ℕ) (s : State) (c k : ℕ) : Type 0 where
  pub queue : (one n s c (insertion_of (Member k))).0.queue ≡ s.queue
  pub members : (one n s c (insertion_of (Member k))).0.members ≡ set.insert s.members k
  pub pairs : (one n s c (insertion_of (Member k))).0.pairs ≡ s.pairs
  pub few : live (one n s c (insertion_of (Member k))).0 ≤ live s + 1
  pub told : (one n s c (insertion_of (Member k))).1 ≢ told.Full

added_one : (n : ℕ) (s : State) (c k : ℕ) → live s < cap n → AddedOne n s c k
added_one n s c k lt = go (set.contains s.members k) refl
  where
    go : (t : Bool) → set.contains s.members k ≡ t → AddedOne n s c k
    go true has =
        let is : one n s c (insertion_of (Member k)) ≡ (s, told.Present) = ap (λ (b : Bool). if b then (s, told.Present) else (if has_room n s then (record s { members = set.insert s.members k }, told.Added) else (s, told.Full))) has in
        record {
          queue = ap (λ (d : State × SingleReply). d.0.queue) is;
          members = ap (λ (d : State × SingleReply). d.0.members) is ∙ sym (insert_there s.members k has);
          pairs = ap (λ (d : State × SingleReply). d.0.pairs) is;
          few = omega (arith, ap (λ (d : State × SingleReply). live d.0) is);
          told = λ full. let never : told.Present ≡ told.Full = sym (ap (λ (d : State × SingleReply). d.1) is) ∙ full in cc;
        }
    go false new =
        let is : one n s c (insertion_of (Member k)) ≡ (record s { members = set.insert s.members k }, told.Added) =
        ap (λ (b : Bool). if b then (s, told.Present) else (if has_room n s then (record s { members = set.insert s.members k }, told.Added) else (s, told.Full))) new
        ∙ ap (λ (b : Bool). if b then (record s { members = set.insert s.members k }, told.Added) else (s, told.Full)) (room n s lt) in
        let long : set.len (set.insert s.members k) ≡ set.len s.members + 1 = set.len-insert nat_cmp_total s.members k ∙ ap (λ (b : Bool). cond b (set.len s.members) (set.len s.members + 1)) new in
        record {
          queue = ap (λ (d : State × SingleReply). d.0.queue) is;
          members = ap (λ (d : State × SingleReply). d.0.members) is;
          pairs = ap (λ (d : State × SingleReply). d.0.pairs) is;
          few = omega (arith, ap (λ (d : State × SingleReply). live d.0) is, long);
          told = λ full. let never : told.Added ≡ told.Full = sym (ap (λ (d : State × SingleReply). d.1) is) ∙ full in cc;
        }

pub record Added (n : ℕ) (s : State) (k : ℕ) (xs ks : List ℕ) : Type 0 where
  pub taken : Taken n s k (map Member ks)
  pub queue : (after n s k (map Member ks)).queue ≡ s.queue
  pub members : (after n s k (map Member ks)).members ≡ set.from_list (xs ++ ks)
  pub pairs : (after n s k (map Member ks)).pairs ≡ s.pairs

pub set_all : (n : ℕ) (s : State) (c : ℕ) (xs ks : List ℕ) → s.members ≡ set.from_list xs → live s + length ks ≤ cap n → Added n s c xs ks
set_all n s c xs [] are fits = record {
  taken = record { few = omega arith; none = tt };
  queue = refl;
  members = are ∙ ap (λ ys. set.from_list ys) (sym (append-nil xs));
  pairs = refl;
}
set_all n s c xs (k ∷ ks) are fits =
    let step = added_one n s (c / 8) k (omega (arith, fits)) in
    let next = (one n s (c / 8) (insertion_of (Member k))).0 in
    let has : next.members ≡ set.from_list (xs ++ k ∷ []) = step.members ∙ ap (λ m. set.insert m k) are ∙ sym (set.from_list_push nat_cmp_total finite.nat_cmp-IsAntisymmetric xs k) in
    let rest = set_all n next (c + 1) (xs ++ k ∷ []) ks has (omega (arith, fits, step.few)) in
    record {
      taken = record { few = omega (arith, rest.taken.few, step.few); none = (step.told, rest.taken.none) };
      queue = rest.queue ∙ step.queue;
      members = rest.members ∙ ap (λ ys. set.from_list ys) (append_assoc xs (k ∷ []) ks);
      pairs = rest.pairs ∙ step.pairs;
    }

-- the map
abbrev pub pair_of : ℕ × Stamped → Element
pair_of e = Pair e.0 e.1.value

-- one key is put in
pub record PutOne (n : ℕ) (s : State) (c k v : ℕ) : Type 0 where
  pub queue : (one n s c (insertion_of (Pair k v))).0.queue ≡ s.queue
  pub members : (one n s c (insertion_of (Pair k v))).0.members ≡ s.members
  pub values : (q : ℕ) → value_of (one n s c (insertion_of (Pair k v))).0 q ≡ cond (eq_by_cmp nat_cmp q k) (Some v) (value_of s q)
  pub few : live (one n s c (insertion_of (Pair k v))).0 ≤ live s + 1
  pub told : (one n s c (insertion_of (Pair k v))).1 ≢ told.Full

pub one_more : (b : Bool) (n : ℕ) → cond b n (n + 1) ≤ n + 1
one_more true n = omega arith
one_more false n = omega arith

picked : (b : Bool) (x : Stamped) (o : Option Stamped) → option_map (λ (kept : Stamped). kept.value) (cond b (Some x) o) ≡ cond b (Some x.value) (option_map (λ (kept : Stamped). kept.value) o)
picked true x o = refl
picked false x o = refl

put_one : (n : ℕ) (s : State) (c k v : ℕ) → live s < cap n → PutOne n s c k v
put_one n s c k v lt = go (value_of s k) refl
  where
    new : State
    new = record s { pairs = written s.pairs (c + 1) k v }

    by : (reply : SingleReply) → reply ≢ told.Full → one n s c (insertion_of (Pair k v)) ≡ (record s { pairs = written s.pairs (c + 1) k v }, reply) → PutOne n s c k v
    by reply ne is = record {
      queue = ap (λ (d : State × SingleReply). d.0.queue) is;
      members = ap (λ (d : State × SingleReply). d.0.members) is;
      values = λ q. ap (λ (d : State × SingleReply). value_of d.0 q) is ∙ ap (λ o. option_map (λ (kept : Stamped). kept.value) o) (finite.get-insert nat_cmp_total s.pairs k (record { value = v; stamp = c + 1 }) q)
          ∙ picked (eq_by_cmp nat_cmp q k) (record { value = v; stamp = c + 1 }) (finite.get s.pairs q);
      few = omega (arith, ap (λ (d : State × SingleReply). live d.0) is, finite.len-insert nat_cmp_total s.pairs k (record { value = v; stamp = c + 1 }), one_more (finite.contains_key s.pairs k) (finite.len s.pairs));
      told = λ full. ne (sym (ap (λ (d : State × SingleReply). d.1) is) ∙ full);
    }

    go : (found : Option ℕ) → value_of s k ≡ found → PutOne n s c k v
    go (Some u) has = by (told.Was u) (λ is. let never : told.Was u ≡ told.Full = is in cc) (ap (λ o. put n s (c + 1) k v o) has)
    go None none = by told.NoPrior (λ is. let never : told.NoPrior ≡ told.Full = is in cc)
        (ap (λ o. put n s (c + 1) k v o) none ∙ ap (λ (b : Bool). if b then (record s { pairs = written s.pairs (c + 1) k v }, told.NoPrior) else (s, told.Full)) (room n s lt))

-- the value of a key after some entries, the last of which counts
unfoldable pub put_over : List (ℕ × Stamped) → (ℕ → Option ℕ) → ℕ → Option ℕ
put_over [] old q = old q
put_over (e ∷ es) old q = put_over es (λ p. cond (eq_by_cmp nat_cmp p e.0) (Some e.1.value) (old p)) q

same_over : (es : List (ℕ × Stamped)) (f g : ℕ → Option ℕ) (q : ℕ) → ((p : ℕ) → f p ≡ g p) → put_over es f q ≡ put_over es g q
unfolding put_over
same_over [] f g q same = same q
same_over (e ∷ es) f g q same = same_over es (λ p. cond (eq_by_cmp nat_cmp p e.0) (Some e.1.value) (f p)) (λ p. cond (eq_by_cmp nat_cmp p e.0) (Some e.1.value) (g p)) q (λ p. ap (λ o. cond (eq_by_cmp nat_cmp p e.0) (Some e.1.value) o) (same p))

pub record Put (n : ℕ) (s : State) (k : ℕ) (es : List (ℕ × Stamped)) : Type 0 where
  pub taken : Taken n s k (map pair_of es)
  pub queue : (after n s k (map pair_of es)).queue ≡ s.queue
  pub members : (after n s k (map pair_of es)).members ≡ s.members
  pub values : (q : ℕ) → value_of (after n s k (map pair_of es)) q ≡ put_over es (value_of s) q

pub map_all : (n : ℕ) (s : State) (c : ℕ) (es : List (ℕ × Stamped)) → live s + length es ≤ cap n → Put n s c es
unfolding put_over
map_all n s c [] fits = record { taken = record { few = omega arith; none = tt }; queue = refl; members = refl; values = λ q. refl }
map_all n s c (e ∷ es) fits =
    let step = put_one n s (c / 8) e.0 e.1.value (omega (arith, fits)) in
    let next = (one n s (c / 8) (insertion_of (pair_of e))).0 in
    let rest = map_all n next (c + 1) es (omega (arith, fits, step.few)) in
    record {
      taken = record { few = omega (arith, rest.taken.few, step.few); none = (step.told, rest.taken.none) };
      queue = rest.queue ∙ step.queue;
      members = rest.members ∙ step.members;
      values = λ q. rest.values q ∙ same_over es (value_of next) (λ p. cond (eq_by_cmp nat_cmp p e.0) (Some e.1.value) (value_of s p)) q step.values;
    }
