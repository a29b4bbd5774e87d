-- Blocks that were reached: they meet no others, and the next may be any block that meets none of them.
use Rattle.std.proofs.Common.{◌≡◌, inl, inr, ℕ, zero, suc, ◌+◌, ◌-◌, ◌^◌, ◌<◌, ◌≤◌, Bool, true, false, List, [], ◌∷◌, ◌++◌, length, refl, sym, ◌∙◌, ap, subst, arith}
use Rattle.std.specs.Prelude.{◌==◌, ◌||◌}
use Rattle.std.proofs.lemmas.Bool.{cases_eq, cases_lt}
use Rattle.rom_model.specs.Blocks.{IsNode, IsDisjoint, IsFree, taking, up}
use Rattle.rom_model.specs.Chains.{times}
use Rattle.rom_model.proofs.Times.{times_here, times_away, times-append}
use Rattle.rom_model.proofs.Nodes.{node_fits, pow_positive, up_least}
use Rattle.rom_model.proofs.Members.{under_table}
use Rattle.rom_model.proofs.Counting.{at_most}
use Rattle.rom_block.specs.Walk.{Clear}
use Rattle.rom_block.proofs.Free.{clear_free}
use Rattle.rom_block.proofs.Sets.{none_of, take_disjoint}
use Rattle.rom_blob_region.specs.State.{blocks_in, taken_with}
use Rattle.rom_blob_region.specs.Region.{blob_at, AreBlobsApart}
use Rattle.rom_blob_region.proofs.Held.{held_first, taken_block, taken_table, taken_none, free_untaken, apart_more, taking_here, taking_still}
use Rattle.rom_blob_region.proofs.Adding.{disjoint_less, new_free, new_disjoint}
use Rattle.rom_blob_region.proofs.Places.{has_node}
use Rattle.rom_blob_region.specs.Walks.{held}

taken_less : (xs ys : List ℕ) → ((x : ℕ) → times x ys ≤ times x xs) → (i : ℕ) → taken_with ys i ≡ true → taken_with xs i ≡ true
taken_less xs ys less i is = elim (cases_eq i 16) [
  | inl same ↦ ap (taken_with xs) same ∙ taken_table xs
  | inr other ↦ elim (cases_lt 0 (times i ys)) [
    | inl some ↦ taken_block xs i (omega (arith, some, less i))
    | inr gone ↦ absurd (let none : taken_with ys i ≡ false = taken_none ys i other (omega (arith, gone)) in let never : true ≡ false = sym is ∙ none in cc)
  ]
]

-- some of them
pub apart_less : (n : ℕ) (xs ys : List ℕ) → ((x : ℕ) → times x ys ≤ times x xs) → AreBlobsApart n xs → AreBlobsApart n ys
apart_less n xs ys less are = record {
  different = λ c. omega (arith, less c, are.different c);
  beside = omega (arith, less 16, are.beside);
  disjoint = disjoint_less n (taken_with xs) (taken_with ys) (taken_less xs ys less) are.disjoint;
}

-- a block more that meets none
pub apart_next : (n order x : ℕ) (xs : List ℕ) → order ≤ n → IsNode (n - order) x → Clear (taken_with xs) order x → AreBlobsApart n xs → AreBlobsApart n (x ∷ xs)
apart_next n order x xs le node clear are =
    let deep : n - order + order ≡ n = omega (arith, le) in
    let free : IsFree n (taken_with xs) order x = clear_free (taken_with xs) n order x clear in
    apart_more n xs are x (x ∷ xs) (free_untaken n (n - order) order x (taken_with xs) deep node free) (take_disjoint n (n - order) order x (taken_with xs) deep node are.disjoint free) (λ c. omega (arith, times-append c (x ∷ []) xs))

not_taken : (x i : ℕ) (T : ℕ → Bool) → taking x T i ≡ false → T i ≡ false
not_taken x i T none = go (i == x) none
  where
    go : (t : Bool) → (t || T i) ≡ false → T i ≡ false
    go true never = cc
    go false is = is

-- and the other way round
pub clear_first : (n order x : ℕ) (xs : List ℕ) → AreBlobsApart n (x ∷ xs) → Clear (taken_with xs) order x
clear_first n order x xs apart = record {
  above = λ k. not_taken x (up (suc k) x) (taken_with xs) (disjoint.apart x k (taking_here x (taken_with xs)));
  below = none_of (taken_with xs) order x (λ m y at. go m y at (taken_with xs y) refl);
}
  where
    disjoint : IsDisjoint n (taking x (taken_with xs))
    disjoint = new_disjoint n xs x apart

    go : (m y : ℕ) → up m y ≡ x → (t : Bool) → taken_with xs y ≡ t → taken_with xs y ≡ false
    go m y at false is = is
    go zero y at true is = ap (taken_with xs) at ∙ new_free n xs x apart
    go (suc m) y at true is = absurd (
        let none : taking x (taken_with xs) x ≡ false = ap (taking x (taken_with xs)) (sym at) ∙ disjoint.apart y m (taking_still x y (taken_with xs) is) in
        let never : true ≡ false = sym (taking_here x (taken_with xs)) ∙ none in
        cc)

-- a unit that does not meet the bucket table stands behind it
pub behind_table : (n b : ℕ) (xs : List ℕ) → 4 ≤ n → IsNode n (2 ^ n + b) → Clear (taken_with xs) 0 (2 ^ n + b) → 2 ^ (n - 4) ≤ b
behind_table n b xs le node clear = elim (cases_lt b (2 ^ (n - 4))) [
  | inl lt ↦ absurd (
      let none : taken_with xs 16 ≡ false = ap (taken_with xs) (sym (under_table n b le lt)) ∙ clear_free (taken_with xs) n 0 (2 ^ n + b) clear (2 ^ n + b) (n - 4) node refl in
      let never : true ≡ false = sym (taken_table xs) ∙ none in
      cc)
  | inr ge ↦ ge
]

-- no block is above the root
pub none_over : (n : ℕ) (xs : List ℕ) → AreBlobsApart n xs → taken_with xs 0 ≡ false
none_over n xs are = go (taken_with xs 0) refl
  where
    go : (t : Bool) → taken_with xs 0 ≡ t → taken_with xs 0 ≡ false
    go true is = let at = are.disjoint.nodes 0 is in absurd (omega (arith, at.3.least, pow_positive at.0))
    go false is = is

module _ (n : ℕ) (w : List ℕ) where
  -- each node has its unit
  pub times_unit : (b : ℕ) (us : List ℕ) → times b us ≤ times (2 ^ n + b) (held n w us)
  times_unit b [] = omega arith
  times_unit b (u ∷ us) = elim (cases_eq u b) [
    | inl same ↦ omega (arith, held_first (blob_at n w) (2 ^ n + b) u us, times_unit b us, ap (λ c. times b (c ∷ us)) same, times_here b us, has_node n w b, ap (λ c. times (2 ^ n + b) (blocks_in (blob_at n w c))) same)
    | inr other ↦ omega (arith, held_first (blob_at n w) (2 ^ n + b) u us, times_unit b us, times_away b u us other)
  ]

  pub unit_once : (us : List ℕ) → AreBlobsApart n (held n w us) → (b : ℕ) → times b us ≤ 1
  unit_once us apart b = omega (arith, times_unit b us, apart.different (2 ^ n + b))

  pub unit_inside : (us : List ℕ) → AreBlobsApart n (held n w us) → (b : ℕ) → 0 < times b us → b < 2 ^ n
  unit_inside us apart b some =
      let at = apart.disjoint.nodes (2 ^ n + b) (taken_block (held n w us) (2 ^ n + b) (omega (arith, some, times_unit b us))) in
      omega (arith, node_fits n at.0 at.1 (2 ^ n + b) at.2 at.3)

  -- nodes that are apart are no more than the region has units
  pub few : (us seen : List ℕ) → AreBlobsApart n (held n w (us ++ seen)) → length us ≤ 2 ^ n
  few us seen apart =
      at_most 0 (2 ^ n) us
      (λ b. omega (arith, unit_once (us ++ seen) apart b, times-append b us seen))
      (λ b some. (omega arith, omega (arith, unit_inside (us ++ seen) apart b (omega (arith, some, times-append b us seen)))))

-- a unit is a block of order 0
pub unit_deep : (n x : ℕ) → IsNode (n - 0) x → IsNode n x
unit_deep n x is = subst (λ d. IsNode d x) (let e : n - 0 ≡ n = omega arith in e) is

pub unit_node : (n b : ℕ) → b < 2 ^ n → IsNode (n - 0) (2 ^ n + b)
unit_node n b lt = subst (λ d. IsNode d (2 ^ n + b)) (let e : n ≡ n - 0 = omega arith in e) record { least = omega arith; most = omega (arith, lt) }

-- the bucket table alone
pub none_apart : (n : ℕ) → 4 ≤ n → AreBlobsApart n []
none_apart n le = record {
  different = λ x. omega arith;
  beside = refl;
  disjoint = record {
    nodes = λ i there. (4, n - 4, omega (arith, le), subst (λ z. IsNode 4 z) (sym (only_table i there)) record { least = omega arith; most = omega arith });
    apart = λ i k there. taken_none [] (up (suc k) i) (λ e. absurd (omega (arith, e, up_least k i, only_table i there))) refl;
  };
}
  where
    only_table : (i : ℕ) → taken_with [] i ≡ true → i ≡ 16
    only_table i there = elim (cases_eq i 16) [
      | inl same ↦ same
      | inr other ↦ absurd (let gone : taken_with [] i ≡ false = taken_none [] i other refl in let never : true ≡ false = sym there ∙ gone in cc)
    ]
