-- Where no block of an order is free, each has a unit that is taken.
use Rattle.std.proofs.Common.{◌≡◌, inl, inr, ℕ, zero, suc, ◌+◌, ◌-◌, ◌*◌, ◌/◌, ◌^◌, ◌<◌, ◌≤◌, Bool, true, false, List, [], ◌∷◌, ◌++◌, map, length, refl, sym, ◌∙◌, ap, subst, arith, length-append}
use Rattle.std.specs.Prelude.{Some, None, not, if◌then◌else◌}
use Rattle.std.proofs.lemmas.Bool.{cases_eq, cases_lt}
use Rattle.std.proofs.lemmas.List.{length-map}
use Rattle.std.proofs.lemmas.Nat.{pow-add}
use Rattle.std.proofs.Math.Nat.{mul-div_cancel, mul-le-mul_right}
use Rattle.rom_model.specs.Blocks.{IsNode, NoneFree, up}
use Rattle.rom_model.specs.Chains.{times}
use Rattle.rom_model.proofs.Times.{times_here, times_away, times_more, times-append}
use Rattle.rom_model.proofs.Nodes.{pow_positive, up_depth, pow_up}
use Rattle.rom_model.proofs.Members.{quarter_pow}
use Rattle.rom_model.proofs.Counting.{covers}
use Rattle.rom_blob_region.specs.State.{taken_with, any_below, lies_in, is_free, first_number_where, lowest, table_blocks}
use Rattle.rom_blob_region.proofs.Lowest.{some_below, up_is, up_below, unit_of, free_tested, free_sound}
use Rattle.rom_blob_region.proofs.Held.{taken_none}

-- a number of a run
run : ℕ → ℕ → List ℕ
run a zero = []
run a (suc m) = (a + m) ∷ run a m

run_long : (a m : ℕ) → length (run a m) ≡ m
unfolding run
run_long a zero = refl
run_long a (suc m) = ap suc (run_long a m)

run_has : (a m u : ℕ) → a ≤ u → u < a + m → 0 < times u (run a m)
unfolding run
run_has a zero u lo hi = absurd (omega (arith, lo, hi))
run_has a (suc m) u lo hi = elim (cases_eq u (a + m)) [
  | inl same ↦ omega (arith, ap (λ v. times v ((a + m) ∷ run a m)) same, times_here (a + m) (run a m))
  | inr other ↦ omega (arith, run_has a m u lo (omega (arith, hi, other)), times_more u (a + m) (run a m))
]

-- the units of blocks, each told with its order
units_all : List (ℕ × ℕ) → List ℕ
units_all [] = []
units_all (m ∷ ms) = run (m.0 * 2 ^ m.1) (2 ^ m.1) ++ units_all ms

-- how many these are
abbrev pub counted : List (ℕ × ℕ) → ℕ
counted [] = 0
counted (m ∷ ms) = 2 ^ m.1 + counted ms

units_long : (ms : List (ℕ × ℕ)) → length (units_all ms) ≡ counted ms
unfolding units_all
units_long [] = refl
units_long (m ∷ ms) = length-append (run (m.0 * 2 ^ m.1) (2 ^ m.1)) (units_all ms) ∙ (λ i. run_long (m.0 * 2 ^ m.1) (2 ^ m.1) i + units_long ms i)

abbrev pub nodes_in : List (ℕ × ℕ) → List ℕ
nodes_in ms = map (λ m. m.0) ms

-- each is a node of its order
abbrev pub AllPlaced : ℕ → List (ℕ × ℕ) → Type 0
AllPlaced n [] = Unit {0}
AllPlaced n (m ∷ ms) = (m.1 ≤ n) × IsNode (n - m.1) m.0 × AllPlaced n ms

-- a unit under one of the blocks is one of the units
under_some : (n : ℕ) (ms : List (ℕ × ℕ)) (y u k : ℕ) → AllPlaced n ms → 0 < times y (nodes_in ms) → IsNode n u → up k u ≡ y → 0 < times u (units_all ms)
unfolding units_all
under_some n [] y u k placed some unit above = absurd (omega (arith, some))
under_some n (m ∷ ms) y u k placed some unit above = elim (cases_eq m.0 y) [
  | inl same ↦
      let node : IsNode (n - m.1) y = subst (λ z. IsNode (n - m.1) z) same placed.1 in
      let deep : n ≡ n - m.1 + k = up_depth k (n - m.1) n u y unit node above in
      let order : k ≡ m.1 = omega (arith, deep, placed.0) in
      let at : up m.1 u ≡ m.0 = ap (λ j. up j u) (sym order) ∙ above ∙ sym same in
      let bounds = up_below m.1 u in
      let low : m.0 * 2 ^ m.1 ≤ u = subst (λ z. z * 2 ^ m.1 ≤ u) at bounds.0 in
      let high : u < (m.0 + 1) * 2 ^ m.1 = subst (λ z. u < (z + 1) * 2 ^ m.1) at bounds.1 in
      let more : (m.0 + 1) * 2 ^ m.1 ≡ m.0 * 2 ^ m.1 + 2 ^ m.1 = omega arith in
      omega (arith, run_has (m.0 * 2 ^ m.1) (2 ^ m.1) u low (omega (arith, high, more)), times-append u (run (m.0 * 2 ^ m.1) (2 ^ m.1)) (units_all ms))
  | inr other ↦ omega (arith, under_some n ms y u k placed.2 (omega (arith, some, times_away y m.0 (nodes_in ms) other)) unit above, times-append u (run (m.0 * 2 ^ m.1) (2 ^ m.1)) (units_all ms))
]

-- a number whose image is wanted
mapped : (g : ℕ → ℕ) (us : List ℕ) (u : ℕ) → 0 < times u us → 0 < times (g u) (map g us)
mapped g [] u some = absurd (omega (arith, some))
mapped g (v ∷ us) u some = elim (cases_eq v u) [
  | inl same ↦ omega (arith, ap (λ z. times (g u) (g z ∷ map g us)) same, times_here (g u) (map g us))
  | inr other ↦ omega (arith, mapped g us u (omega (arith, some, times_away u v us other)), times_more (g u) (g v) (map g us))
]

-- the table's units lie in so many blocks
table_room : (n order : ℕ) → 4 ≤ n → 2 ^ (n - 4) ≤ table_blocks n order * 2 ^ order
table_room n order le = elim (cases_lt (n - 4) order) [
  | inl less ↦
      let e : n - 4 + (order - (n - 4)) ≡ order = omega (arith, less) in
      let big : 2 ^ (n - 4) ≤ 2 ^ order = subst (λ a. 2 ^ (n - 4) ≤ 2 ^ a) e (pow_up (n - 4) (order - (n - 4))) in
      let one : 1 ≤ table_blocks n order = omega arith in
      omega (arith, big, mul-le-mul_right (2 ^ order) one)
  | inr ge ↦
      let e : n - 4 - order + order ≡ n - 4 = omega (arith, ge) in
      let p : 2 ^ (n - 4) ≡ 2 ^ (n - 4 - order) * 2 ^ order = ap (λ a. 2 ^ a) (sym e) ∙ pow-add 2 (n - 4 - order) order in
      let q : 2 ^ (n - 4) / 2 ^ order ≡ 2 ^ (n - 4 - order) = ap (λ a. a / 2 ^ order) p ∙ mul-div_cancel (2 ^ (n - 4 - order)) {n = 2 ^ order} (pow_positive order) in
      let least : 2 ^ (n - 4 - order) ≤ table_blocks n order = omega (arith, q) in
      omega (arith, p, mul-le-mul_right (2 ^ order) least)
]

module _ (n order : ℕ) (ms : List (ℕ × ℕ)) (le : 4 ≤ n) (within : order ≤ n) (placed : AllPlaced n ms) (none_free : NoneFree n (taken_with (nodes_in ms)) order) where
  abbrev T : ℕ → Bool
  T = taken_with (nodes_in ms)

  abbrev first : ℕ
  first = 2 ^ (n - order) + table_blocks n order

  -- each block behind the table has a unit of these
  has_one : (i : ℕ) → first ≤ i → i < 2 * 2 ^ (n - order) → T 0 ≡ false → 0 < times i (map (up order) (units_all ms))
  has_one i lo hi zero_free = go (is_free n T order i) refl
    where
      deep : n - order + order ≡ n
      deep = omega (arith, within)

      node : IsNode (n - order) i
      node = record { least = omega (arith, lo); most = omega (arith, hi) }

      behind : 2 ^ n + 2 ^ (n - 4) ≤ i * 2 ^ order
      behind =
          let p : 2 ^ n ≡ 2 ^ (n - order) * 2 ^ order = ap (λ a. 2 ^ a) (sym deep) ∙ pow-add 2 (n - order) order in
          let all : first * 2 ^ order ≤ i * 2 ^ order = mul-le-mul_right (2 ^ order) lo in
          let sum_is : first * 2 ^ order ≡ 2 ^ (n - order) * 2 ^ order + table_blocks n order * 2 ^ order = omega arith in
          omega (arith, p, all, sum_is, table_room n order le)

      found : (u k : ℕ) → IsNode n u → up order u ≡ i → i * 2 ^ order ≤ u → T (up k u) ≡ true → 0 < times i (map (up order) (units_all ms))
      found u k unit above low there = elim (cases_eq (up k u) 16) [
        | inl table ↦
            let sixteen : IsNode 4 16 = record { least = omega arith; most = omega arith } in
            let far : n ≡ 4 + k = up_depth k 4 n u 16 unit sixteen table in
            let k_is : k ≡ n - 4 = omega (arith, far) in
            let high : u < (16 + 1) * 2 ^ k = subst (λ z. u < (z + 1) * 2 ^ k) table (up_below k u).1 in
            let pow : 2 ^ k ≡ 2 ^ (n - 4) = ap (λ a. 2 ^ a) k_is in
            absurd (omega (arith, high, pow, quarter_pow n le, behind, low))
        | inr other ↦ elim (cases_lt 0 (times (up k u) (nodes_in ms))) [
          | inl some ↦ subst (λ z. 0 < times z (map (up order) (units_all ms))) above (mapped (up order) (units_all ms) u (under_some n ms (up k u) u k placed some unit refl))
          | inr gone ↦ absurd (let none : T (up k u) ≡ false = taken_none (nodes_in ms) (up k u) other (omega (arith, gone)) in let never : true ≡ false = sym there ∙ none in cc)
        ]
      ]

      negated : (b : Bool) → not b ≡ false → b ≡ true
      negated true is = refl
      negated false is = absurd (let never : true ≡ false = is in cc)

      go : (b : Bool) → is_free n T order i ≡ b → 0 < times i (map (up order) (units_all ms))
      go true free = absurd (none_free (n - order) i deep node (free_sound n T zero_free (n - order) order i deep node free))
      go false shut =
          let test : ℕ → Bool = λ r. lies_in n T (i * 2 ^ order + r) in
          let some = some_below (2 ^ order) test (negated (any_below (2 ^ order) test) shut) in
          let u = i * 2 ^ order + some.0 in
          let above = some_below (n + 1) (λ k. T (up k u)) some.2 in
          found u above.0 (unit_of n (n - order) order i some.0 deep node some.1) (up_is order u i (omega arith) (omega (arith, some.1))) (omega arith) above.2

  -- so there are as many
  pub crowded : T 0 ≡ false → 2 ^ (n - order) ≤ counted ms + table_blocks n order
  crowded zero_free = elim (cases_lt (2 ^ (n - order)) (table_blocks n order)) [
    | inl less ↦ omega (arith, less)
    | inr ge ↦
        let many = covers first (2 ^ (n - order) - table_blocks n order) (map (up order) (units_all ms)) (λ b lo hi. has_one b lo (omega (arith, lo, hi, ge)) zero_free) in
        omega (arith, many, length-map (units_all ms) (up order), units_long ms)
  ]

-- where the lowest is none, none is free
pub none_first : (test : ℕ → Bool) (many at : ℕ) → first_number_where test at many ≡ None → (y : ℕ) → at ≤ y → y < at + many → test y ≡ false
none_first test zero at none y lo hi = absurd (omega (arith, lo, hi))
none_first test (suc many) at none y lo hi = go (test at) refl (λ rest less. none_first test many (at + 1) rest y less (omega (arith, hi))) none
  where
    go : (b : Bool) → test at ≡ b → (first_number_where test (at + 1) many ≡ None → at + 1 ≤ y → test y ≡ false) → (if b then Some at else first_number_where test (at + 1) many) ≡ None → test y ≡ false
    go true here more is = absurd (let never : Some at ≡ None = is in cc)
    go false here more is = elim (cases_eq y at) [
      | inl same ↦ ap test same ∙ here
      | inr other ↦ more is (omega (arith, lo, other))
    ]

pub none_of : (n order : ℕ) (T : ℕ → Bool) → T 0 ≡ false → order ≤ n → lowest n T order ≡ None → NoneFree n T order
none_of n order T zero_free le none depth i deep node free =
    let same : depth ≡ n - order = omega (arith, deep) in
    let p : 2 ^ depth ≡ 2 ^ (n - order) = ap (λ a. 2 ^ a) same in
    let shut = none_first (is_free n T order) (2 ^ (n - order)) (2 ^ (n - order)) none i (omega (arith, node.least, p)) (omega (arith, node.most, p)) in
    let open_ : is_free n T order i ≡ true = free_tested n T zero_free depth order i deep node free in
    let never : true ≡ false = sym open_ ∙ shut in
    cc
