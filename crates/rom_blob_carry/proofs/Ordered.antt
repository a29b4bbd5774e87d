-- The elements of a state are its keys with their bytes, in an order of their own.
use Rattle.std.proofs.Common.{◌≡◌, ◌≢◌, inl, inr, ℕ, zero, suc, ◌+◌, ◌^◌, ◌≤◌, Bool, true, false, cond, T, List, [], ◌∷◌, ◌++◌, map, length, refl, sym, ◌∙◌, ap, subst, arith}
use Rattle.std.specs.Prelude.{Option, Some, None, option_map, ◌==◌, if◌then◌else◌, ◌&&◌}
use Rattle.std.specs.List.{AllByRecursion, sum_by}
use Rattle.std.specs.Ordering.{nat_cmp, eq_by_cmp, is_eq, is_lt, ordering_reverse}
use Rattle.std.specs.Cmp.{nat_cmp_total, tied_itself, unsigned_tied}
use Rattle.std.specs.declared.cmp.Ordering.{Ordering}
use Rattle.std.specs.declared.cmp.Ordering.TheVariants.{Less, Equal, Greater}
use Rattle.std.specs.FinMap as finite
use Rattle.std.specs.FinMap.Entries.{below_all, find, is_sorted}
use Rattle.std.proofs.lemmas.Bool.{cases_eq}
use Rattle.std.proofs.lemmas.Bool.Decides.{nat_tests}
use Rattle.std.proofs.lemmas.List.Sums.{sum_by-cons, sum_by-append}
use Rattle.rom_model.specs.Chains.{times}
use Rattle.rom_model.proofs.Times.{times_here, times_more}
use Rattle.rom_bucket.proofs.Entries.{find_absent, firsts}
use Rattle.rom_blob_region.specs.State.{Blob, BlobState, body_units, order_for}
use Rattle.rom_blob_region.proofs.Places.{order_small}
use Rattle.rom_blob_carry.specs.Elements.{Entry, elements_of, one_sized, sized_in}

first : (a b : Bool) → T (a && b) → T a
first true b is = tt
first false b is = absurd is

second : (a b : Bool) → T (a && b) → T b
second true b is = is
second false b is = absurd is

less_is : (o : Ordering) → T (is_lt o) → o ≡ Less
less_is Less is = refl
less_is Equal is = absurd is
less_is Greater is = absurd is

-- each entry of some is found among these
abbrev AllFound : List (ℕ × Blob) → List (ℕ × Blob) → Type 0
AllFound es fs = AllByRecursion (λ f. find nat_cmp f.0 es ≡ Some f.1) fs

-- entries behind a lesser key are found where they were
found_behind : (x : ℕ) (v : Blob) (es fs : List (ℕ × Blob)) → T (below_all nat_cmp x fs) → AllFound es fs → AllFound ((x, v) ∷ es) fs
found_behind x v es [] below all = tt
found_behind x v es (f ∷ fs) below all =
    let above : is_eq (nat_cmp f.0 x) ≡ false = ap is_eq (nat_cmp_total.antisymm f.0 x ∙ ap ordering_reverse (less_is (nat_cmp x f.0) (first (is_lt (nat_cmp x f.0)) (below_all nat_cmp x fs) below))) in
    (ap (λ b. cond b (Some v) (find nat_cmp f.0 es)) above ∙ all.0, found_behind x v es fs (second (is_lt (nat_cmp x f.0)) (below_all nat_cmp x fs) below) all.1)

found_each : (es : List (ℕ × Blob)) → T (is_sorted nat_cmp es) → AllFound es es
found_each [] sorted = tt
found_each (e ∷ es) sorted = (
  ap (λ b. cond (is_eq b) (Some e.1) (find nat_cmp e.0 es)) (tied_itself nat_cmp_total e.0),
  found_behind e.0 e.1 es es (first (below_all nat_cmp e.0 es) (is_sorted nat_cmp es) sorted) (found_each es (second (below_all nat_cmp e.0 es) (is_sorted nat_cmp es) sorted)),
)

-- the entries with blocks of that size
abbrev pub sized_of : ℕ → List (ℕ × Blob) → List Entry
sized_of units [] = []
sized_of units (e ∷ es) = one_sized units e.0 (Some e.1) ++ sized_of units es

sized_same : (units : ℕ) (m : BlobState) (es : List (ℕ × Blob)) → AllByRecursion (λ e. finite.get m e.0 ≡ Some e.1) es → sized_in units m (map (λ e. e.0) es) ≡ sized_of units es
sized_same units m [] all = refl
sized_same units m (e ∷ es) all =
    let rest = sized_same units m es all.1 in
    λ i. one_sized units e.0 (all.0 i) ++ rest i

entries_got : (m : BlobState) (es : List (ℕ × Blob)) → AllFound (finite.entries m) es → AllByRecursion (λ e. finite.get m e.0 ≡ Some e.1) es
entries_got m [] all = tt
entries_got m (e ∷ es) all = (finite.get-entries m e.0 ∙ all.0, entries_got m es all.1)

-- all of them, those with large blocks first
abbrev ordered : List (ℕ × Blob) → List Entry
ordered es = sized_of 8 es ++ (sized_of 4 es ++ (sized_of 2 es ++ (sized_of 1 es ++ (sized_of 0 es ++ []))))

pub elements_ordered : (s : BlobState) → elements_of s ≡ ordered (finite.entries s)
elements_ordered s =
    let all = entries_got s (finite.entries s) (found_each (finite.entries s) (finite.entries_sorted s)) in
    let size : (units : ℕ) → sized_in units s (finite.keys s) ≡ sized_of units (finite.entries s) = λ units. sized_same units s (finite.entries s) all in
    λ i. size 8 i ++ (size 4 i ++ (size 2 i ++ (size 1 i ++ (size 0 i ++ []))))

-- A block for bytes has one of five sizes.
by_size : (P : ℕ → Type 0) (len : ℕ) → P 8 → P 4 → P 2 → P 1 → P 0 → P (body_units len)
by_size P len eight four two one none = elim (cases_eq len 0) [
  | inl zero_long ↦
      let test : (len == 0) ≡ true = grind (arith, nat_tests) in
      subst (λ t. P (if t then 0 else 2 ^ order_for len)) (sym test) none
  | inr some ↦
      let test : (len == 0) ≡ false = grind (arith, nat_tests) in
      subst (λ t. P (if t then 0 else 2 ^ order_for len)) (sym test) (go (order_for len) (order_small len))
]
  where
    go : (order : ℕ) → order ≤ 3 → P (2 ^ order)
    go zero le = one
    go (suc zero) le = two
    go (suc (suc zero)) le = four
    go (suc (suc (suc zero))) le = eight
    go (suc (suc (suc (suc order)))) le = absurd (omega (arith, le))

-- a sum over the elements is one over the entries
module _ (g : Entry → ℕ) where
  one_sum : (e : Entry) (u : ℕ) → ℕ
  one_sum e u =
      sum_by g (if u == 8 then e ∷ [] else []) + (sum_by g (if u == 4 then e ∷ [] else []) + (sum_by g (if u == 2 then e ∷ [] else []) + (sum_by g (if u == 1 then e ∷ [] else []) + sum_by g (if u == 0 then e ∷ [] else []))))

  one_sum_is : (e : Entry) → one_sum e (body_units (length e.1)) ≡ g e
  unfolding one_sum
  one_sum_is e =
      let one : sum_by g (e ∷ []) ≡ g e + 0 = sum_by-cons g e [] in
      by_size (λ u. one_sum e u ≡ g e) (length e.1) (omega (arith, one)) (omega (arith, one)) (omega (arith, one)) (omega (arith, one)) (omega (arith, one))

  sums : List (ℕ × Blob) → ℕ
  sums es = sum_by g (sized_of 8 es) + (sum_by g (sized_of 4 es) + (sum_by g (sized_of 2 es) + (sum_by g (sized_of 1 es) + sum_by g (sized_of 0 es))))

  sums_are : (es : List (ℕ × Blob)) → sums es ≡ sum_by (λ e. g (e.0, e.1.bytes)) es
  unfolding sums one_sum
  sums_are [] = refl
  sums_are (e ∷ es) =
      let p : Entry = (e.0, e.1.bytes) in
      let each : (u : ℕ) → sum_by g (one_sized u e.0 (Some e.1) ++ sized_of u es) ≡ sum_by g (one_sized u e.0 (Some e.1)) + sum_by g (sized_of u es) = λ u. sum_by-append g (one_sized u e.0 (Some e.1)) (sized_of u es) in
      omega (arith, each 8, each 4, each 2, each 1, each 0, one_sum_is p, sums_are es, sum_by-cons (λ e. g (e.0, e.1.bytes)) e es)

  pub elements_sum : (s : BlobState) → sum_by g (elements_of s) ≡ sum_by (λ e. g (e.0, e.1.bytes)) (finite.entries s)
  unfolding sums
  elements_sum s =
      let es = finite.entries s in
      ap (sum_by g) (elements_ordered s) ∙ omega (
        arith,
        sums_are es,
        sum_by-append g (sized_of 8 es) (sized_of 4 es ++ (sized_of 2 es ++ (sized_of 1 es ++ (sized_of 0 es ++ [])))),
        sum_by-append g (sized_of 4 es) (sized_of 2 es ++ (sized_of 1 es ++ (sized_of 0 es ++ []))),
        sum_by-append g (sized_of 2 es) (sized_of 1 es ++ (sized_of 0 es ++ [])),
        sum_by-append g (sized_of 1 es) (sized_of 0 es ++ []),
        sum_by-append g (sized_of 0 es) [],
      )

-- what is found among the elements
abbrev or_else : Option (List ℕ) → Option (List ℕ) → Option (List ℕ)
or_else None other = other
or_else (Some bytes) other = Some bytes

find_append : (q : ℕ) (xs ys : List Entry) → find nat_cmp q (xs ++ ys) ≡ or_else (find nat_cmp q xs) (find nat_cmp q ys)
find_append q [] ys = refl
find_append q (x ∷ xs) ys = ap (cond (eq_by_cmp nat_cmp q x.0) (Some x.1)) (find_append q xs ys) ∙ go (eq_by_cmp nat_cmp q x.0)
  where
    go : (t : Bool) → cond t (Some x.1) (or_else (find nat_cmp q xs) (find nat_cmp q ys)) ≡ or_else (cond t (Some x.1) (find nat_cmp q xs)) (find nat_cmp q ys)
    go true = refl
    go false = refl

-- the bytes of a key, where their block has that size
abbrev picked : ℕ → Option Blob → Option (List ℕ)
picked units None = None
picked units (Some blob) = if body_units (length blob.bytes) == units then Some blob.bytes else None

apart : (q k : ℕ) → q ≢ k → eq_by_cmp nat_cmp q k ≡ false
apart q k ne = let test : (q == k) ≡ false = grind (arith, nat_tests) in unsigned_tied q k ∙ test

alike : (q k : ℕ) → q ≡ k → eq_by_cmp nat_cmp q k ≡ true
alike q k e = let test : (q == k) ≡ true = grind (arith, nat_tests) in unsigned_tied q k ∙ test

find_sized : (units q : ℕ) (es : List (ℕ × Blob)) → times q (firsts es) ≤ 1 → find nat_cmp q (sized_of units es) ≡ picked units (find nat_cmp q es)
find_sized units q [] once = refl
find_sized units q (e ∷ es) once = elim (cases_eq e.0 q) [
  | inl same ↦
      let gone : find nat_cmp q es ≡ None = find_absent q es (omega (arith, once, times_here q (firsts es), ap (λ x. times q (x ∷ firsts es)) same)) in
      let rest = find_sized units q es (omega (arith, once, times_more q e.0 (firsts es))) ∙ ap (picked units) gone in
      let hit = alike q e.0 (sym same) in
      here (body_units (length e.1.bytes) == units) hit rest ∙ ap (λ t. picked units (cond t (Some e.1) (find nat_cmp q es))) (sym hit)
  | inr other ↦
      let rest = find_sized units q es (omega (arith, once, times_more q e.0 (firsts es))) in
      let miss = apart q e.0 (λ is. other (sym is)) in
      away (body_units (length e.1.bytes) == units) miss ∙ rest ∙ ap (λ t. picked units (cond t (Some e.1) (find nat_cmp q es))) (sym miss)
]
  where
    here : (t : Bool) → eq_by_cmp nat_cmp q e.0 ≡ true → find nat_cmp q (sized_of units es) ≡ None → find nat_cmp q ((if t then (e.0, e.1.bytes) ∷ [] else []) ++ sized_of units es) ≡ (if t then Some e.1.bytes else None)
    here true hit rest = ap (λ b. cond b (Some e.1.bytes) (find nat_cmp q (sized_of units es))) hit
    here false hit rest = rest

    away : (t : Bool) → eq_by_cmp nat_cmp q e.0 ≡ false → find nat_cmp q ((if t then (e.0, e.1.bytes) ∷ [] else []) ++ sized_of units es) ≡ find nat_cmp q (sized_of units es)
    away true miss = ap (λ b. cond b (Some e.1.bytes) (find nat_cmp q (sized_of units es))) miss
    away false miss = refl

all_picked : (found : Option Blob) → or_else (picked 8 found) (or_else (picked 4 found) (or_else (picked 2 found) (or_else (picked 1 found) (or_else (picked 0 found) None)))) ≡ option_map (λ (blob : Blob). blob.bytes) found
all_picked None = refl
all_picked (Some blob) =
    by_size (λ u. or_else (if u == 8 then Some blob.bytes else None) (or_else (if u == 4 then Some blob.bytes else None) (or_else (if u == 2 then Some blob.bytes else None) (or_else (if u == 1 then Some blob.bytes else None) (or_else (if u == 0 then Some blob.bytes else None) None)))) ≡ Some blob.bytes)
    (length blob.bytes) refl refl refl refl refl

pub elements_found : (s : BlobState) → ((q : ℕ) → times q (firsts (finite.entries s)) ≤ 1) → (q : ℕ) → find nat_cmp q (elements_of s) ≡ option_map (λ (blob : Blob). blob.bytes) (finite.get s q)
elements_found s once q =
    let es = finite.entries s in
    let size : (units : ℕ) → find nat_cmp q (sized_of units es) ≡ picked units (find nat_cmp q es) = λ units. find_sized units q es (once q) in
    ap (find nat_cmp q) (elements_ordered s) ∙ find_append q (sized_of 8 es) (sized_of 4 es ++ (sized_of 2 es ++ (sized_of 1 es ++ (sized_of 0 es ++ []))))
    ∙ ap (or_else (find nat_cmp q (sized_of 8 es))) (find_append q (sized_of 4 es) (sized_of 2 es ++ (sized_of 1 es ++ (sized_of 0 es ++ [])))
    ∙ ap (or_else (find nat_cmp q (sized_of 4 es))) (find_append q (sized_of 2 es) (sized_of 1 es ++ (sized_of 0 es ++ []))
    ∙ ap (or_else (find nat_cmp q (sized_of 2 es))) (find_append q (sized_of 1 es) (sized_of 0 es ++ [])
    ∙ ap (or_else (find nat_cmp q (sized_of 1 es))) (find_append q (sized_of 0 es) []))))
    ∙ (λ i. or_else (size 8 i) (or_else (size 4 i) (or_else (size 2 i) (or_else (size 1 i) (or_else (size 0 i) None))))) ∙ all_picked (find nat_cmp q es) ∙ ap (option_map (λ (blob : Blob). blob.bytes)) (sym (finite.get-entries s q))
