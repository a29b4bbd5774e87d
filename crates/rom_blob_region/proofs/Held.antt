-- The blocks of keys, counted.
use Rattle.std.proofs.Common.{◌≡◌, ◌≢◌, inl, inr, ℕ, ◌+◌, ◌<◌, ◌≤◌, Bool, true, false, List, [], ◌∷◌, ◌++◌, refl, sym, ◌∙◌, ap, subst, arith, append_assoc}
use Rattle.std.specs.Prelude.{◌==◌, ◌||◌, nat_lt}
use Rattle.std.specs.List.{sum_by}
use Rattle.std.specs.FinMap as finite
use Rattle.std.proofs.lemmas.Bool.{cases_eq, cases_lt}
use Rattle.std.proofs.lemmas.Bool.Decides.{nat_tests}
use Rattle.std.proofs.lemmas.List.Sums.{sum_by-cons}
use Rattle.rom_model.specs.Blocks.{IsNode, IsDisjoint, IsFree, AreWords, taking, giving}
use Rattle.rom_model.specs.Chains.{times}
use Rattle.rom_model.proofs.Times.{times_here, times_away, times_more, times-append}
use Rattle.rom_model.proofs.Nodes.{low, up_low, node_low}
use Rattle.rom_model.proofs.Members.{words_same}
use Rattle.rom_bucket.specs.Buckets.{blocks_of_buckets, AreBuckets, entries_of, keyed}
use Rattle.rom_bucket.proofs.Entries.{sum_entries}
use Rattle.rom_bucket.proofs.Keys.{once}
use Rattle.rom_blob_region.specs.State.{Blob, blocks_in, all_in, taken_with, blocks_taken}
use Rattle.rom_blob_region.specs.Region.{held_by, AreBlobsApart}

module _ (blob : ℕ → Blob) where
  pub held_append : (us vs : List ℕ) → held_by blob (us ++ vs) ≡ held_by blob us ++ held_by blob vs
  held_append [] vs = refl
  held_append (u ∷ us) vs = ap (λ xs. blocks_in (blob u) ++ xs) (held_append us vs) ∙ sym (append_assoc (blocks_in (blob u)) (held_by blob us) (held_by blob vs))

  pub times_held : (x : ℕ) (us vs : List ℕ) → times x (held_by blob (us ++ vs)) ≡ times x (held_by blob us) + times x (held_by blob vs)
  times_held x us vs = ap (times x) (held_append us vs) ∙ times-append x (held_by blob us) (held_by blob vs)

  pub held_first : (x u : ℕ) (us : List ℕ) → times x (held_by blob (u ∷ us)) ≡ times x (blocks_in (blob u)) + times x (held_by blob us)
  held_first x u us = times-append x (blocks_in (blob u)) (held_by blob us)

  -- those of one between others
  pub held_between : (x : ℕ) (us vs : List ℕ) (b : ℕ) → times x (held_by blob (us ++ b ∷ vs)) ≡ times x (held_by blob (us ++ vs)) + times x (blocks_in (blob b))
  held_between x us vs b = omega (arith, times_held x us (b ∷ vs), times_held x us vs, held_first x b vs)

  -- the blocks of one of them
  pub held_has : (x b : ℕ) (us : List ℕ) → 0 < times b us → times x (blocks_in (blob b)) ≤ times x (held_by blob us)
  held_has x b [] some = absurd (omega (arith, some))
  held_has x b (u ∷ us) some = elim (cases_eq u b) [
    | inl same ↦ omega (arith, held_first x u us, ap (λ c. times x (blocks_in (blob c))) same)
    | inr other ↦ omega (arith, held_first x u us, held_has x b us (omega (arith, some, times_away b u us other)))
  ]

  -- those of two
  pub held_two : (x b c : ℕ) (us : List ℕ) → b ≢ c → 0 < times b us → 0 < times c us → times x (blocks_in (blob b)) + times x (blocks_in (blob c)) ≤ times x (held_by blob us)
  held_two x b c [] ne one two = absurd (omega (arith, one))
  held_two x b c (u ∷ us) ne one two = elim (cases_eq u b) [
    | inl same ↦
        let also : u ≢ c = λ e. ne (sym same ∙ e) in
        omega (arith, held_first x u us, ap (λ d. times x (blocks_in (blob d))) same, held_has x c us (omega (arith, two, times_away c u us also)))
    | inr other ↦ elim (cases_eq u c) [
      | inl same ↦ omega (arith, held_first x u us, ap (λ d. times x (blocks_in (blob d))) same, held_has x b us (omega (arith, one, times_away b u us other)))
      | inr away ↦ omega (arith, held_first x u us, held_two x b c us ne (omega (arith, one, times_away b u us other)) (omega (arith, two, times_away c u us away)))
    ]
  ]

  -- a block of one of them is one of those of some
  pub held_by_one : (x : ℕ) (us : List ℕ) → 0 < times x (held_by blob us) → (b : ℕ) × (0 < times b us) × (0 < times x (blocks_in (blob b)))
  held_by_one x [] some = absurd (omega (arith, some))
  held_by_one x (u ∷ us) some = elim (cases_lt 0 (times x (blocks_in (blob u)))) [
    | inl here ↦ (u, omega (arith, times_here u us), here)
    | inr away ↦ let at = held_by_one x us (omega (arith, some, away, held_first x u us)) in (at.0, omega (arith, at.1, times_more at.0 u us), at.2)
  ]

pub held_same : (blob blob' : ℕ → Blob) (us : List ℕ) → ((b : ℕ) → 0 < times b us → blob' b ≡ blob b) → held_by blob' us ≡ held_by blob us
held_same blob blob' [] same = refl
held_same blob blob' (u ∷ us) same =
    let here = same u (omega (arith, times_here u us)) in
    let rest = held_same blob blob' us (λ b some. same b (omega (arith, some, times_more b u us))) in
    λ i. blocks_in (here i) ++ rest i

-- the blocks of a state, counted over its entries
times_all : (x : ℕ) (es : List (ℕ × Blob)) → times x (all_in es) ≡ sum_by (λ e. times x (blocks_in e.1)) es
times_all x [] = refl
times_all x (e ∷ es) = times-append x (blocks_in e.1) (all_in es) ∙ ap (λ m. times x (blocks_in e.1) + m) (times_all x es) ∙ sym (sum_by-cons (λ e. times x (blocks_in e.1)) e es)

all_held : (n : ℕ) (w : List ℕ) (blob : ℕ → Blob) (us : List ℕ) → all_in (entries_of n w blob us) ≡ held_by blob us
all_held n w blob [] = refl
all_held n w blob (u ∷ us) = ap (λ xs. blocks_in (blob u) ++ xs) (all_held n w blob us)

-- what is taken in a state, by the blocks of its keys
module _ {n size : ℕ} {w : List ℕ} {f : ℕ → List ℕ} (is : AreBuckets n size w f) (blob : ℕ → Blob) where
  pub times_state : (x : ℕ) → times x (all_in (finite.entries (keyed n w blob f))) ≡ times x (held_by blob (blocks_of_buckets n f))
  times_state x =
      times_all x (finite.entries (keyed n w blob f)) ∙ sum_entries (λ e. times x (blocks_in e.1)) (entries_of n w blob (blocks_of_buckets n f)) (once is blob)
      ∙ sym (times_all x (entries_of n w blob (blocks_of_buckets n f))) ∙ ap (times x) (all_held n w blob (blocks_of_buckets n f))

  pub taken_state : (x : ℕ) → blocks_taken (keyed n w blob f) x ≡ taken_with (held_by blob (blocks_of_buckets n f)) x
  taken_state x = ap (λ m. (x == 16) || nat_lt 0 m) (times_state x)

positive : (m : ℕ) → 0 < m → nat_lt 0 m ≡ true
positive m some = grind (arith, nat_tests)

no_more : (m : ℕ) → m ≡ 0 → nat_lt 0 m ≡ false
no_more m none = grind (arith, nat_tests)

pub taken_block : (xs : List ℕ) (x : ℕ) → 0 < times x xs → taken_with xs x ≡ true
taken_block xs x some = go (x == 16) (positive (times x xs) some)
  where
    go : (b : Bool) → nat_lt 0 (times x xs) ≡ true → (b || nat_lt 0 (times x xs)) ≡ true
    go true is = refl
    go false is = is

pub taken_table : (xs : List ℕ) → taken_with xs 16 ≡ true
taken_table xs = refl

pub taken_none : (xs : List ℕ) (x : ℕ) → x ≢ 16 → times x xs ≡ 0 → taken_with xs x ≡ false
taken_none xs x ne none = let test : (x == 16) ≡ false = grind (arith, nat_tests) in rw test (no_more (times x xs) none)

-- what is not taken is not the table, nor one of the blocks
pub untaken : (xs : List ℕ) (x : ℕ) → taken_with xs x ≡ false → (x ≢ 16) × (times x xs ≡ 0)
untaken xs x none = (
  (λ e. absurd (let some : taken_with xs x ≡ true = ap (taken_with xs) e ∙ taken_table xs in let never : true ≡ false = sym some ∙ none in cc)),
  elim (cases_lt 0 (times x xs)) [
    | inl some ↦ absurd (let is : taken_with xs x ≡ true = taken_block xs x some in let never : true ≡ false = sym is ∙ none in cc)
    | inr gone ↦ omega (arith, gone)
  ],
)

-- the same blocks, counted
pub taken_same : (xs ys : List ℕ) → ((c : ℕ) → times c xs ≡ times c ys) → (i : ℕ) → taken_with xs i ≡ taken_with ys i
taken_same xs ys same i = ap (λ m. (i == 16) || nat_lt 0 m) (same i)

-- one block more
pub taking_one : (x : ℕ) (xs more : List ℕ) → ((c : ℕ) → times c more ≡ times c xs + times c (x ∷ [])) → (i : ℕ) → taking x (taken_with xs) i ≡ taken_with more i
taking_one x xs more counts i = elim (cases_eq i x) [
  | inl same ↦
      let test : (i == x) ≡ true = grind (arith, nat_tests) in
      let some : taken_with more i ≡ true = taken_block more i (omega (arith, counts i, ap (λ c. times c (x ∷ [])) same, times_here x [])) in
      rw test (sym some)
  | inr other ↦
      let test : (i == x) ≡ false = grind (arith, nat_tests) in
      let away : times i more ≡ times i xs = omega (arith, counts i, times_away i x [] (λ e. other (sym e))) in
      rw (test, away) refl
]

-- one block fewer
pub giving_one : (x : ℕ) (xs fewer : List ℕ) → x ≢ 16 → times x fewer ≡ 0 → ((c : ℕ) → times c xs ≡ times c fewer + times c (x ∷ [])) → (i : ℕ) → giving x (taken_with xs) i ≡ taken_with fewer i
giving_one x xs fewer beside gone counts i = elim (cases_eq i x) [
  | inl same ↦
      let test : (i == x) ≡ true = grind (arith, nat_tests) in
      let none : taken_with fewer i ≡ false = taken_none fewer i (λ e. beside (sym same ∙ e)) (ap (λ c. times c fewer) same ∙ gone) in
      rw test (sym none)
  | inr other ↦
      let test : (i == x) ≡ false = grind (arith, nat_tests) in
      let away : times i xs ≡ times i fewer = omega (arith, counts i, times_away i x [] (λ e. other (sym e))) in
      rw (test, away) refl
]

-- what is free is not taken
pub free_untaken : (n depth order x : ℕ) (T : ℕ → Bool) → depth + order ≡ n → IsNode depth x → IsFree n T order x → T x ≡ false
free_untaken n depth order x T deep is free = ap T (sym (up_low order x)) ∙ free (low order x) order (subst (λ d. IsNode d (low order x)) deep (node_low order depth x is)) (up_low order x)

pub disjoint_same : (n : ℕ) (T S : ℕ → Bool) → ((i : ℕ) → T i ≡ S i) → IsDisjoint n T → IsDisjoint n S
disjoint_same n T S same are = subst (λ (R : ℕ → Bool). IsDisjoint n R) (λ p i. same i p) are

module _ (n : ℕ) (xs : List ℕ) (are : AreBlobsApart n xs) where
  -- with a block that was free
  pub apart_more : (x : ℕ) (more : List ℕ) → taken_with xs x ≡ false → IsDisjoint n (taking x (taken_with xs)) → ((c : ℕ) → times c more ≡ times c xs + times c (x ∷ [])) → AreBlobsApart n more
  apart_more x more new disjoint counts =
      let out = untaken xs x new in
      record {
        different = λ c. elim (cases_eq x c) [
          | inl same ↦ subst (λ d. times d more ≤ 1) same (omega (arith, counts x, out.1, times_here x []))
          | inr other ↦ omega (arith, counts c, times_away c x [] other, are.different c)
        ];
        beside = omega (arith, counts 16, times_away 16 x [] out.0, are.beside);
        disjoint = disjoint_same n (taking x (taken_with xs)) (taken_with more) (taking_one x xs more counts) disjoint;
      }

  -- without one of them
  pub apart_fewer : (x : ℕ) (fewer : List ℕ) → IsDisjoint n (giving x (taken_with xs)) → ((c : ℕ) → times c xs ≡ times c fewer + times c (x ∷ [])) → AreBlobsApart n fewer
  apart_fewer x fewer disjoint counts =
      let some : 0 < times x xs = omega (arith, counts x, times_here x []) in
      record {
        different = λ c. omega (arith, are.different c, counts c);
        beside = omega (arith, are.beside, counts 16);
        disjoint = disjoint_same n (giving x (taken_with xs)) (taken_with fewer)
            (giving_one x xs fewer (λ e. absurd (omega (arith, some, ap (λ c. times c xs) e, are.beside))) (omega (arith, are.different x, counts x, times_here x [])) counts) disjoint;
      }

  pub not_table : (x : ℕ) → 0 < times x xs → x ≢ 16
  not_table x some e = absurd (omega (arith, some, ap (λ c. times c xs) e, are.beside))

  -- the tree without one of them
  pub words_fewer : (x : ℕ) (fewer w : List ℕ) → ((c : ℕ) → times c xs ≡ times c fewer + times c (x ∷ [])) → AreWords n (giving x (taken_with xs)) w → AreWords n (taken_with fewer) w
  words_fewer x fewer w counts words =
      let some : 0 < times x xs = omega (arith, counts x, times_here x []) in
      words_same n (giving x (taken_with xs)) (taken_with fewer) w (giving_one x xs fewer (not_table x some) (omega (arith, are.different x, counts x, times_here x [])) counts) words

pub words_more : (n x : ℕ) (xs more w : List ℕ) → ((c : ℕ) → times c more ≡ times c xs + times c (x ∷ [])) → AreWords n (taking x (taken_with xs)) w → AreWords n (taken_with more) w
words_more n x xs more w counts words = words_same n (taking x (taken_with xs)) (taken_with more) w (taking_one x xs more counts) words

-- what was taken still is
pub taking_still : (x z : ℕ) (T : ℕ → Bool) → T z ≡ true → taking x T z ≡ true
taking_still x z T there = go (z == x) there
  where
    go : (t : Bool) → T z ≡ true → (t || T z) ≡ true
    go true is = refl
    go false is = is

pub taking_here : (x : ℕ) (T : ℕ → Bool) → taking x T x ≡ true
taking_here x T = let test : (x == x) ≡ true = grind (arith, nat_tests) in rw test refl

-- the same blocks in another order
pub apart_same : (n : ℕ) (xs ys : List ℕ) → ((c : ℕ) → times c xs ≡ times c ys) → AreBlobsApart n xs → AreBlobsApart n ys
apart_same n xs ys same are = record {
  different = λ c. omega (arith, are.different c, same c);
  beside = omega (arith, are.beside, same 16);
  disjoint = disjoint_same n (taken_with xs) (taken_with ys) (taken_same xs ys same) are.disjoint;
}

pub tree_same : (n : ℕ) (xs ys w : List ℕ) → ((c : ℕ) → times c xs ≡ times c ys) → AreWords n (taken_with xs) w → AreWords n (taken_with ys) w
tree_same n xs ys w same words = words_same n (taken_with xs) (taken_with ys) w (taken_same xs ys same) words
