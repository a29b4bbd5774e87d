-- Lists of entries whose keys rise, and the maps that have them.
use Rattle.std.proofs.Common.{◌≡◌, ◌≢◌, inl, inr, ℕ, ◌<◌, ◌≤◌, Bool, true, false, T, cond, List, [], ◌∷◌, ◌++◌, refl, sym, ◌∙◌, ap, subst, arith}
use Rattle.std.specs.Prelude.{Option, Some, None, ◌==◌, ◌&&◌, nat_lt}
use Rattle.std.specs.Ordering.{nat_cmp, is_lt, eq_by_cmp}
use Rattle.std.specs.Cmp.{unsigned_tied, nat_cmp_total}
use Rattle.std.specs.FinMap as map
use Rattle.std.specs.FinMap.{FinMap, find, is_sorted}
use Rattle.std.specs.FinMap.Entries.{below_all}
use Rattle.std.proofs.lemmas.Bool.{cases_eq}
use Rattle.std.proofs.lemmas.Bool.Decides.{nat_tests}
use Rattle.rom_order_region.specs.Keys.{KeysBelow, KeysAbove, EntriesRise}

both : (a b : Bool) → T a → T b → T (a && b)
both true b p q = q
both false b p q = p

first : (a b : Bool) → T (a && b) → T a
first true b p = tt
first false b p = p

second : (a b : Bool) → T (a && b) → T b
second true b p = p
second false b p = absurd p

is_true : (b : Bool) → T b → b ≡ true
is_true true p = refl
is_true false p = absurd p

test_less : (x y : ℕ) → is_lt (nat_cmp x y) ≡ nat_lt x y
test_less x y = grind (arith, nat_tests)

less : (x y : ℕ) → T (is_lt (nat_cmp x y)) → x < y
less x y p = let e : nat_lt x y ≡ true = sym (test_less x y) ∙ is_true (is_lt (nat_cmp x y)) p in grind (arith, nat_tests)

less_test : (x y : ℕ) → x < y → T (is_lt (nat_cmp x y))
less_test x y lt = let e : is_lt (nat_cmp x y) ≡ true = grind (arith, nat_tests) in subst T (sym e) tt

above_of : (q : ℕ) (es : List (ℕ × ℕ)) → T (below_all nat_cmp q es) → KeysAbove q es
above_of q [] p = tt
above_of q (e ∷ es) p = (less q e.0 (first _ _ p), above_of q es (second _ _ p))

of_above : (q : ℕ) (es : List (ℕ × ℕ)) → KeysAbove q es → T (below_all nat_cmp q es)
of_above q [] p = tt
of_above q (e ∷ es) p = both _ _ (less_test q e.0 p.0) (of_above q es p.1)

pub rise_of : (es : List (ℕ × ℕ)) → T (is_sorted nat_cmp es) → EntriesRise es
rise_of [] p = tt
rise_of (e ∷ es) p = (above_of e.0 es (first _ _ p), rise_of es (second _ _ p))

pub of_rise : (es : List (ℕ × ℕ)) → EntriesRise es → T (is_sorted nat_cmp es)
of_rise [] p = tt
of_rise (e ∷ es) p = both _ _ (of_above e.0 es p.0) (of_rise es p.1)

pub above_append : (q : ℕ) (xs ys : List (ℕ × ℕ)) → KeysAbove q xs → KeysAbove q ys → KeysAbove q (xs ++ ys)
above_append q [] ys p r = r
above_append q (x ∷ xs) ys p r = (p.0, above_append q xs ys p.1 r)

pub below_append : (q : ℕ) (xs ys : List (ℕ × ℕ)) → KeysBelow q xs → KeysBelow q ys → KeysBelow q (xs ++ ys)
below_append q [] ys p r = r
below_append q (x ∷ xs) ys p r = (p.0, below_append q xs ys p.1 r)

pub above_front : (q : ℕ) (xs ys : List (ℕ × ℕ)) → KeysAbove q (xs ++ ys) → KeysAbove q xs × KeysAbove q ys
above_front q [] ys p = (tt, p)
above_front q (x ∷ xs) ys p = let rest = above_front q xs ys p.1 in ((p.0, rest.0), rest.1)

pub below_front : (q : ℕ) (xs ys : List (ℕ × ℕ)) → KeysBelow q (xs ++ ys) → KeysBelow q xs × KeysBelow q ys
below_front q [] ys p = (tt, p)
below_front q (x ∷ xs) ys p = let rest = below_front q xs ys p.1 in ((p.0, rest.0), rest.1)

pub above_less : (q p : ℕ) (es : List (ℕ × ℕ)) → q ≤ p → KeysAbove p es → KeysAbove q es
above_less q p [] le above = tt
above_less q p (e ∷ es) le above = (omega (arith, above.0), above_less q p es le above.1)

pub below_less : (q p : ℕ) (es : List (ℕ × ℕ)) → p ≤ q → KeysBelow p es → KeysBelow q es
below_less q p [] le below = tt
below_less q p (e ∷ es) le below = (omega (arith, below.0), below_less q p es le below.1)

-- the parts of a list round an entry
pub record Parts (xs : List (ℕ × ℕ)) (q : ℕ) (ys : List (ℕ × ℕ)) : Type 0 where
  pub front : EntriesRise xs
  pub below : KeysBelow q xs
  pub above : KeysAbove q ys
  pub back : EntriesRise ys

pub parts : (xs : List (ℕ × ℕ)) (e : ℕ × ℕ) (ys : List (ℕ × ℕ)) → EntriesRise (xs ++ e ∷ ys) → Parts xs e.0 ys
parts [] e ys p = record { front = tt; below = tt; above = p.0; back = p.1 }
parts (x ∷ xs) e ys p =
    let rest = parts xs e ys p.1 in
    let split = above_front x.0 xs (e ∷ ys) p.0 in
    record { front = (split.0, rest.front); below = (split.1.0, rest.below); above = rest.above; back = rest.back }

pub with_entry : (xs : List (ℕ × ℕ)) (k v : ℕ) (ys : List (ℕ × ℕ)) → Parts xs k ys → EntriesRise (xs ++ (k, v) ∷ ys)
with_entry [] k v ys p = (p.above, p.back)
with_entry (x ∷ xs) k v ys p = (
  above_append x.0 xs ((k, v) ∷ ys) p.front.0 (p.below.0, above_less x.0 k ys (omega (arith, p.below.0)) p.above),
  with_entry xs k v ys record { front = p.front.1; below = p.below.1; above = p.above; back = p.back },
)

pub without_entry : (xs : List (ℕ × ℕ)) (k : ℕ) (ys : List (ℕ × ℕ)) → Parts xs k ys → EntriesRise (xs ++ ys)
without_entry [] k ys p = p.back
without_entry (x ∷ xs) k ys p = (
  above_append x.0 xs ys p.front.0 (above_less x.0 k ys (omega (arith, p.below.0)) p.above),
  without_entry xs k ys record { front = p.front.1; below = p.below.1; above = p.above; back = p.back },
)

-- the two parts of a list
pub rise_split : (xs ys : List (ℕ × ℕ)) → EntriesRise (xs ++ ys) → EntriesRise xs × EntriesRise ys
rise_split [] ys p = (tt, p)
rise_split (x ∷ xs) ys p = let rest = rise_split xs ys p.1 in (((above_front x.0 xs ys p.0).0, rest.0), rest.1)

differ : (a b : ℕ) → a ≢ b → (a == b) ≡ false
differ a b ne = grind (arith, nat_tests)

agree : (a b : ℕ) → a ≡ b → (a == b) ≡ true
agree a b e = grind (arith, nat_tests)

find_step : (q : ℕ) (e : ℕ × ℕ) (es : List (ℕ × ℕ)) → find nat_cmp q (e ∷ es) ≡ cond (q == e.0) (Some e.1) (find nat_cmp q es)
find_step q e es = ap (λ b. cond b (Some e.1) (find nat_cmp q es)) (unsigned_tied q e.0)

pub find_first : (q : ℕ) (e : ℕ × ℕ) (es : List (ℕ × ℕ)) → q ≡ e.0 → find nat_cmp q (e ∷ es) ≡ Some e.1
find_first q e es is = find_step q e es ∙ ap (λ b. cond b (Some e.1) (find nat_cmp q es)) (agree q e.0 is)

pub find_later : (q : ℕ) (e : ℕ × ℕ) (es : List (ℕ × ℕ)) → q ≢ e.0 → find nat_cmp q (e ∷ es) ≡ find nat_cmp q es
find_later q e es ne = find_step q e es ∙ ap (λ b. cond b (Some e.1) (find nat_cmp q es)) (differ q e.0 ne)

pub find_above : (q : ℕ) (es : List (ℕ × ℕ)) → KeysAbove q es → find nat_cmp q es ≡ None
find_above q [] above = refl
find_above q (e ∷ es) above = find_later q e es (λ same. absurd (omega (arith, above.0))) ∙ find_above q es above.1

-- behind entries that are below it
pub find_behind : (q : ℕ) (xs ys : List (ℕ × ℕ)) → KeysBelow q xs → find nat_cmp q (xs ++ ys) ≡ find nat_cmp q ys
find_behind q [] ys below = refl
find_behind q (x ∷ xs) ys below = find_later q x (xs ++ ys) (λ same. absurd (omega (arith, below.0))) ∙ find_behind q xs ys below.1

-- before entries that are above it
pub find_before : (q : ℕ) (xs ys : List (ℕ × ℕ)) → KeysAbove q ys → find nat_cmp q (xs ++ ys) ≡ find nat_cmp q xs
find_before q [] ys above = find_above q ys above
find_before q (x ∷ xs) ys above = find_step q x (xs ++ ys) ∙ ap (λ o. cond (q == x.0) (Some x.1) o) (find_before q xs ys above) ∙ sym (find_step q x xs)

find_past : (q k v : ℕ) (zs ys : List (ℕ × ℕ)) → q ≢ k → find nat_cmp q (zs ++ (k, v) ∷ ys) ≡ find nat_cmp q (zs ++ ys)
find_past q k v [] ys other = find_later q (k, v) ys other
find_past q k v (z ∷ zs) ys other = find_step q z (zs ++ (k, v) ∷ ys) ∙ ap (λ o. cond (q == z.0) (Some z.1) o) (find_past q k v zs ys other) ∙ sym (find_step q z (zs ++ ys))

-- with one entry more, or another at its place
pub find_with : (q k v : ℕ) (xs ys : List (ℕ × ℕ)) → KeysBelow k xs → KeysAbove k ys → find nat_cmp q (xs ++ (k, v) ∷ ys) ≡ cond (eq_by_cmp nat_cmp q k) (Some v) (find nat_cmp q (xs ++ ys))
find_with q k v xs ys below above = elim (cases_eq q k) [
  | inl same ↦
      find_behind q xs ((k, v) ∷ ys) (subst (λ a. KeysBelow a xs) (sym same) below) ∙ find_first q (k, v) ys same
      ∙ sym (ap (λ b. cond b (Some v) (find nat_cmp q (xs ++ ys))) (unsigned_tied q k ∙ agree q k same))
  | inr other ↦ find_past q k v xs ys other ∙ sym (ap (λ b. cond b (Some v) (find nat_cmp q (xs ++ ys))) (unsigned_tied q k ∙ differ q k other))
]

pub find_without : (q k v : ℕ) (xs ys : List (ℕ × ℕ)) → KeysBelow k xs → KeysAbove k ys → find nat_cmp q (xs ++ ys) ≡ cond (eq_by_cmp nat_cmp q k) None (find nat_cmp q (xs ++ (k, v) ∷ ys))
find_without q k v xs ys below above = elim (cases_eq q k) [
  | inl same ↦
      find_behind q xs ys (subst (λ a. KeysBelow a xs) (sym same) below) ∙ find_above q ys (subst (λ a. KeysAbove a ys) (sym same) above)
      ∙ sym (ap (λ b. cond b None (find nat_cmp q (xs ++ (k, v) ∷ ys))) (unsigned_tied q k ∙ agree q k same))
  | inr other ↦
      let no : eq_by_cmp nat_cmp q k ≡ false = unsigned_tied q k ∙ differ q k other in
      sym (ap (λ b. cond b None (find nat_cmp q (xs ++ (k, v) ∷ ys))) no ∙ find_with q k v xs ys below above ∙ ap (λ b. cond b (Some v) (find nat_cmp q (xs ++ ys))) no)
]

-- a map that answers as a rising list has its entries
pub has_entries : (m : FinMap nat_cmp ℕ) (es : List (ℕ × ℕ)) → EntriesRise es → ((q : ℕ) → map.get m q ≡ find nat_cmp q es) → map.entries m ≡ es
has_entries m es rises answers =
    let sorted = of_rise es rises in
    ap (λ (n : FinMap nat_cmp ℕ). map.entries n) (map.same_map nat_cmp_total map.nat_cmp-IsAntisymmetric m (map.from_sorted es) (λ q. answers q ∙ sym (map.get-from_sorted nat_cmp es q sorted)))
    ∙ map.entries-from_sorted nat_cmp es sorted

pub rises : (m : FinMap nat_cmp ℕ) → EntriesRise (map.entries m)
rises m = rise_of (map.entries m) (map.entries_sorted m)

-- a map with one entry more or less
module _ (m : FinMap nat_cmp ℕ) (k v : ℕ) (xs ys : List (ℕ × ℕ)) where
  pub entries_new : map.entries m ≡ xs ++ ys → Parts xs k ys → map.entries (map.insert m k v) ≡ xs ++ (k, v) ∷ ys
  entries_new are p = has_entries (map.insert m k v) (xs ++ (k, v) ∷ ys) (with_entry xs k v ys p) (λ q.
      map.get-insert nat_cmp_total m k v q ∙ ap (λ o. cond (eq_by_cmp nat_cmp q k) (Some v) o) (map.get-entries m q ∙ ap (λ es. find nat_cmp q es) are) ∙ sym (find_with q k v xs ys p.below p.above))

  pub entries_changed : (u : ℕ) → map.entries m ≡ xs ++ (k, u) ∷ ys → Parts xs k ys → map.entries (map.insert m k v) ≡ xs ++ (k, v) ∷ ys
  entries_changed u are p = has_entries (map.insert m k v) (xs ++ (k, v) ∷ ys) (with_entry xs k v ys p) (λ q.
      map.get-insert nat_cmp_total m k v q ∙ ap (λ o. cond (eq_by_cmp nat_cmp q k) (Some v) o) (map.get-entries m q ∙ ap (λ es. find nat_cmp q es) are ∙ find_with q k u xs ys p.below p.above)
      ∙ again (eq_by_cmp nat_cmp q k) (Some v) (Some u) (find nat_cmp q (xs ++ ys)) ∙ sym (find_with q k v xs ys p.below p.above))
    where
      again : (b : Bool) (x y z : Option ℕ) → cond b x (cond b y z) ≡ cond b x z
      again true x y z = refl
      again false x y z = refl

  pub entries_gone : map.entries m ≡ xs ++ (k, v) ∷ ys → Parts xs k ys → map.entries (map.remove m k) ≡ xs ++ ys
  entries_gone are p = has_entries (map.remove m k) (xs ++ ys) (without_entry xs k ys p) (λ q.
      map.get-remove nat_cmp_total m k q ∙ ap (λ o. cond (eq_by_cmp nat_cmp q k) None o) (map.get-entries m q ∙ ap (λ es. find nat_cmp q es) are) ∙ sym (find_without q k v xs ys p.below p.above))
