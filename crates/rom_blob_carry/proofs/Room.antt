-- The blocks of a region have no more units than it has.
use Rattle.std.proofs.Common.{◌≡◌, ◌≢◌, inl, inr, ℕ, zero, suc, ◌+◌, ◌-◌, ◌*◌, ◌^◌, ◌<◌, ◌≤◌, Bool, true, false, List, [], ◌∷◌, ◌++◌, length, refl, sym, ◌∙◌, ap, subst, arith, length-append}
use Rattle.std.specs.Prelude.{Some, None, ◌==◌, if◌then◌else◌}
use Rattle.std.specs.List.{sum_by}
use Rattle.std.proofs.lemmas.Bool.{cases_eq, cases_lt}
use Rattle.std.proofs.lemmas.Bool.Decides.{nat_tests}
use Rattle.std.proofs.lemmas.List.Sums.{sum_by-cons}
use Rattle.rom_model.specs.Blocks.{IsDisjoint, IsNode, up}
use Rattle.rom_model.specs.Chains.{times}
use Rattle.rom_model.proofs.Counting.{at_most}
use Rattle.rom_model.proofs.Nodes.{block_node, up_up}
use Rattle.rom_model.proofs.Times.{times_here, times_away, times_more, times-append}
use Rattle.rom_bucket.specs.Buckets.{blocks_of_buckets}
use Rattle.rom_blob_region.specs.State.{BlobState, order_for, some_block, taken_with, units_in}
use Rattle.rom_blob_region.specs.Region.{IsBlob, IsBlobs, blob_at, data_at, held_by, len_at, node_of}
use Rattle.rom_blob_region.proofs.Crowding.{AllPlaced, counted, nodes_in}
use Rattle.rom_blob_region.proofs.Held.{taken_block, taken_table}
use Rattle.rom_blob_region.proofs.Lowest.{unit_of, up_is}
use Rattle.rom_blob_region.proofs.Places.{order_small}
use Rattle.rom_blob_carry.specs.declared.totals.Measure.TheVariants.{Units}
use Rattle.rom_blob_carry.specs.Sizes.{counted_at}
use Rattle.rom_blob_carry.proofs.Sums.{blocks_total, units_total}

-- a number of a run
run : ℕ → ℕ → List ℕ
run a zero = []
run a (suc m) = (a + m) ∷ run a m

run_long : (a m : ℕ) → length (run a m) ≡ m
unfolding run
run_long a zero = refl
run_long a (suc m) = ap suc (run_long a m)

run_in : (a m u : ℕ) → 0 < times u (run a m) → (a ≤ u) × (u < a + m)
unfolding run
run_in a zero u some = absurd (omega (arith, some))
run_in a (suc m) u some = elim (cases_eq (a + m) u) [
  | inl same ↦ (omega (arith, same), omega (arith, same))
  | inr other ↦ let at = run_in a m u (omega (arith, some, times_away u (a + m) (run a m) other)) in (at.0, omega (arith, at.1))
]

run_once : (a m u : ℕ) → times u (run a m) ≤ 1
unfolding run
run_once a zero u = omega arith
run_once a (suc m) u = elim (cases_eq (a + m) u) [
  | inl same ↦ elim (cases_lt 0 (times u (run a m))) [
    | inl some ↦ absurd (omega (arith, same, run_in a m u some))
    | inr none ↦ omega (arith, none, ap (λ v. times v ((a + m) ∷ run a m)) same, times_here (a + m) (run a m), ap (λ v. times v (run a m)) same)
  ]
  | inr other ↦ omega (arith, times_away u (a + m) (run a m) other, run_once a m u)
]

-- the units of blocks, each told with its order
units_all : List (ℕ × ℕ) → List ℕ
units_all [] = []
units_all (m ∷ ms) = run (m.0 * 2 ^ m.1) (2 ^ m.1) ++ units_all ms

units_long : (ms : List (ℕ × ℕ)) → length (units_all ms) ≡ counted ms
unfolding units_all
units_long [] = refl
units_long (m ∷ ms) = length-append (run (m.0 * 2 ^ m.1) (2 ^ m.1)) (units_all ms) ∙ (λ i. run_long (m.0 * 2 ^ m.1) (2 ^ m.1) i + units_long ms i)

-- a unit in a run is one of the block
under : (x order u : ℕ) → 0 < times u (run (x * 2 ^ order) (2 ^ order)) → up order u ≡ x
under x order u some =
    let at = run_in (x * 2 ^ order) (2 ^ order) u some in
    let more : (x + 1) * 2 ^ order ≡ x * 2 ^ order + 2 ^ order = omega arith in
    up_is order u x at.0 (omega (arith, at.1, more))

-- a unit of the blocks is one of a block of them
unit_has : (ms : List (ℕ × ℕ)) (u : ℕ) → 0 < times u (units_all ms) → (x : ℕ) × (order : ℕ) × (0 < times x (nodes_in ms)) × (up order u ≡ x)
unfolding units_all
unit_has [] u some = absurd (omega (arith, some))
unit_has (m ∷ ms) u some = elim (cases_lt 0 (times u (run (m.0 * 2 ^ m.1) (2 ^ m.1)))) [
  | inl here ↦ (m.0, m.1, omega (arith, times_here m.0 (nodes_in ms)), under m.0 m.1 u here)
  | inr away ↦
      let at = unit_has ms u (omega (arith, some, away, times-append u (run (m.0 * 2 ^ m.1) (2 ^ m.1)) (units_all ms))) in
      (at.0, at.1, omega (arith, at.2, times_more at.0 m.0 (nodes_in ms)), at.3)
]

-- a unit of a block is a unit of the heap
unit_within : (n : ℕ) (ms : List (ℕ × ℕ)) (u : ℕ) → AllPlaced n ms → 0 < times u (units_all ms) → IsNode n u
unfolding units_all
unit_within n [] u placed some = absurd (omega (arith, some))
unit_within n (m ∷ ms) u placed some = elim (cases_lt 0 (times u (run (m.0 * 2 ^ m.1) (2 ^ m.1)))) [
  | inl here ↦
      let at = run_in (m.0 * 2 ^ m.1) (2 ^ m.1) u here in
      let r = u - m.0 * 2 ^ m.1 in
      let deep : n - m.1 + m.1 ≡ n = omega (arith, placed.0) in
      let is : m.0 * 2 ^ m.1 + r ≡ u = omega (arith, at.0) in
      subst (λ v. IsNode n v) is (unit_of n (n - m.1) m.1 m.0 r deep placed.1 (omega (arith, at.1, at.0)))
  | inr away ↦ unit_within n ms u placed.2 (omega (arith, some, away, times-append u (run (m.0 * 2 ^ m.1) (2 ^ m.1)) (units_all ms)))
]

-- no unit lies in two blocks
module _ (n : ℕ) (T : ℕ → Bool) (disjoint : IsDisjoint n T) where
  never_above : (x y a b u : ℕ) → T x ≡ true → T y ≡ true → up a u ≡ x → up b u ≡ y → a < b → ⊥
  never_above x y a b u here there first second less =
      let k = b - a - 1 in
      let e : suc k + a ≡ b = omega (arith, less) in
      let above : up (suc k) x ≡ y = ap (λ z. up (suc k) z) (sym first) ∙ up_up (suc k) a u ∙ ap (λ m. up m u) e ∙ second in
      let never : true ≡ false = sym there ∙ ap T (sym above) ∙ disjoint.apart x k here in
      cc

  units_once : (ms : List (ℕ × ℕ)) → ((x : ℕ) → times x (nodes_in ms) ≤ 1) → ((x : ℕ) → 0 < times x (nodes_in ms) → T x ≡ true) → (u : ℕ) → times u (units_all ms) ≤ 1
  unfolding units_all
  units_once [] once taken u = omega arith
  units_once (m ∷ ms) once taken u =
      let each = run (m.0 * 2 ^ m.1) (2 ^ m.1) in
      let rest = units_once ms (λ x. omega (arith, once x, times_more x m.0 (nodes_in ms))) (λ x some. taken x (omega (arith, some, times_more x m.0 (nodes_in ms)))) u in
      elim (cases_lt 0 (times u each)) [
        | inl here ↦ elim (cases_lt 0 (times u (units_all ms))) [
          | inl also ↦
              let at = unit_has ms u also in
              let first = under m.0 m.1 u here in
              let one : T m.0 ≡ true = taken m.0 (omega (arith, times_here m.0 (nodes_in ms))) in
              let two : T at.0 ≡ true = taken at.0 (omega (arith, at.2, times_more at.0 m.0 (nodes_in ms))) in
              absurd (elim (cases_lt m.1 at.1) [
                | inl less ↦ never_above m.0 at.0 m.1 at.1 u one two first at.3 less
                | inr ge ↦ elim (cases_lt at.1 m.1) [
                  | inl more ↦ never_above at.0 m.0 at.1 m.1 u two one at.3 first more
                  | inr le ↦
                      let same : m.1 ≡ at.1 = omega (arith, ge, le) in
                      let block : at.0 ≡ m.0 = sym at.3 ∙ ap (λ o. up o u) (sym same) ∙ first in
                      omega (arith, once m.0, times_here m.0 (nodes_in ms), at.2, ap (λ x. times x (nodes_in ms)) block)
                ]
              ])
          | inr none ↦ omega (arith, none, run_once (m.0 * 2 ^ m.1) (2 ^ m.1) u, times-append u each (units_all ms))
        ]
        | inr away ↦ omega (arith, away, rest, times-append u each (units_all ms))
      ]

  -- so they have no more units than the heap
  pub few_units : (ms : List (ℕ × ℕ)) → AllPlaced n ms → ((x : ℕ) → times x (nodes_in ms) ≤ 1) → ((x : ℕ) → 0 < times x (nodes_in ms) → T x ≡ true) → counted ms ≤ 2 ^ n
  few_units ms placed once taken =
      let many = at_most (2 ^ n) (2 ^ n) (units_all ms) (units_once ms once taken) (λ u some. let at = unit_within n ms u placed some in (at.least, omega (arith, at.most))) in
      omega (arith, many, units_long ms)

-- a block with its order in front of others, where there is one
with_body : Bool → ℕ → ℕ → List (ℕ × ℕ) → List (ℕ × ℕ)
with_body true x order rest = rest
with_body false x order rest = (x, order) ∷ rest

module _ (n : ℕ) (w : List ℕ) where
  body_order : ℕ → ℕ
  body_order b = order_for (len_at n w b)

  body_node : ℕ → ℕ
  body_node b = node_of n (order_for (len_at n w b)) (data_at n w b)

  -- the blocks of nodes with their orders
  pairs : List ℕ → List (ℕ × ℕ)
  pairs [] = []
  pairs (b ∷ bs) = (2 ^ n + b, 0) ∷ with_body (len_at n w b == 0) (body_node b) (body_order b) (pairs bs)

  pairs_nodes : (bs : List ℕ) → nodes_in (pairs bs) ≡ held_by (blob_at n w) bs
  unfolding pairs with_body body_node body_order
  pairs_nodes [] = refl
  pairs_nodes (b ∷ bs) = ap (λ xs. (2 ^ n + b) ∷ xs) (go (len_at n w b == 0) ∙ ap (λ xs. some_block (if len_at n w b == 0 then None else Some (body_node b)) ++ xs) (pairs_nodes bs))
    where
      go : (t : Bool) → nodes_in (with_body t (body_node b) (body_order b) (pairs bs)) ≡ some_block (if t then None else Some (body_node b)) ++ nodes_in (pairs bs)
      go true = refl
      go false = refl

  pairs_counted : (bs : List ℕ) → counted (pairs bs) ≡ sum_by (counted_at Units n w) bs
  unfolding pairs with_body body_node body_order
  pairs_counted [] = refl
  pairs_counted (b ∷ bs) = omega (arith, go (len_at n w b == 0), pairs_counted bs, sum_by-cons (counted_at Units n w) b bs)
    where
      go : (t : Bool) → counted (with_body t (body_node b) (body_order b) (pairs bs)) ≡ (if t then 0 else 2 ^ order_for (len_at n w b)) + counted (pairs bs)
      go true = omega arith
      go false = omega arith

  pairs_placed : 4 ≤ n → (bs : List ℕ) → ((b : ℕ) → 0 < times b bs → IsBlob n w b × (b < 2 ^ n)) → AllPlaced n (pairs bs)
  unfolding pairs with_body body_node body_order
  pairs_placed le [] all = tt
  pairs_placed le (b ∷ bs) all =
      let here = all b (omega (arith, times_here b bs)) in
      let rest = pairs_placed le bs (λ c some. all c (omega (arith, some, times_more c b bs))) in
      let e : n ≡ n - 0 = omega arith in
      let node : IsNode n (2 ^ n + b) = record { least = omega arith; most = omega (arith, here.1) } in
      (omega arith, subst (λ d. IsNode d (2 ^ n + b)) e node, go here.0 (len_at n w b == 0) refl rest)
    where
      go : IsBlob n w b → (t : Bool) → (len_at n w b == 0) ≡ t → AllPlaced n (pairs bs) → AllPlaced n (with_body t (body_node b) (body_order b) (pairs bs))
      go is true test rest = rest
      go is false test rest =
          let some : len_at n w b ≢ 0 = λ none. (let yes : (len_at n w b == 0) ≡ true = grind (arith, nat_tests) in let never : true ≡ false = sym yes ∙ test in cc) in
          let at = is.block some in
          let within : order_for (len_at n w b) ≤ n = omega (arith, le, order_small (len_at n w b)) in
          let deep : n - order_for (len_at n w b) + order_for (len_at n w b) ≡ n = omega (arith, within) in
          let same : at.0 ≡ body_node b = sym (block_node n (n - order_for (len_at n w b)) (order_for (len_at n w b)) at.0 (data_at n w b) deep at.1 at.2) in
          (within, subst (λ x. IsNode (n - order_for (len_at n w b)) x) same at.1, rest)

-- what the keys have fits in the region beside the bucket table
pub units_fit : {n : ℕ} {w : List ℕ} {f : ℕ → List ℕ} {s : BlobState} {k : ℕ} → IsBlobs n w f s k → 2 ^ (n - 4) + units_in s ≤ 2 ^ n
units_fit {n} {w} {f} {s} {k} is =
    let bs = blocks_of_buckets n f in
    let held = held_by (blob_at n w) bs in
    let nodes = pairs_nodes n w bs in
    let e : n - (n - 4) ≡ 4 = omega (arith, is.order.least) in
    let table : IsNode (n - (n - 4)) 16 = subst (λ d. IsNode d 16) (sym e) record { least = omega arith; most = omega arith } in
    let placed : AllPlaced n ((16, n - 4) ∷ pairs n w bs) = (omega arith, table, pairs_placed n w is.order.least bs (λ b some. (is.blobs b some, (is.keys.within b some).1))) in
    let once : (x : ℕ) → times x (nodes_in ((16, n - 4) ∷ pairs n w bs)) ≤ 1 = λ x. elim (cases_eq 16 x) [
      | inl same ↦ omega (arith, ap (λ y. times y (16 ∷ nodes_in (pairs n w bs))) (sym same), times_here 16 (nodes_in (pairs n w bs)), ap (times 16) nodes, is.apart.beside)
      | inr other ↦ omega (arith, times_away x 16 (nodes_in (pairs n w bs)) other, ap (times x) nodes, is.apart.different x)
    ] in
    let taken : (x : ℕ) → 0 < times x (nodes_in ((16, n - 4) ∷ pairs n w bs)) → taken_with held x ≡ true = λ x some. elim (cases_eq 16 x) [
      | inl same ↦ ap (taken_with held) (sym same) ∙ taken_table held
      | inr other ↦ taken_block held x (omega (arith, some, times_away x 16 (nodes_in (pairs n w bs)) other, ap (times x) nodes))
    ] in
    omega (arith, few_units n (taken_with held) is.apart.disjoint ((16, n - 4) ∷ pairs n w bs) placed once taken, pairs_counted n w bs, blocks_total is Units, units_total s)
