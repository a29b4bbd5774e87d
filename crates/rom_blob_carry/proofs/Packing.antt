-- Keys that fit by their units are all set, where those with the most units for their bytes come first: blocks
-- that never grow leave no gap that the next one is too great for.
use Rattle.std.proofs.Common.{◌≡◌, ◌≢◌, ◌⊎◌, inl, inr, ⊎_elim, ℕ, zero, suc, ◌+◌, ◌-◌, ◌*◌, ◌^◌, ◌<◌, ◌≤◌, Bool, true, false, cond, List, [], ◌∷◌, ◌++◌, length, refl, sym, ◌∙◌, ap, subst, arith}
use Rattle.std.specs.Prelude.{Option, Some, None, option_map, not, ◌==◌, ◌||◌, if◌then◌else◌}
use Rattle.std.specs.List.{AllByRecursion, sum_by}
use Rattle.std.specs.declared.cmp.Ordering.{Ordering}
use Rattle.std.specs.declared.cmp.Ordering.TheVariants.{Less, Equal, Greater}
use Rattle.std.specs.Ordering.{nat_cmp, eq_by_cmp, is_eq}
use Rattle.std.specs.Cmp.{unsigned_tied, nat_cmp_total}
use Rattle.std.specs.FinMap as finite
use Rattle.std.specs.FinMap.Entries.{by_order}
use Rattle.std.proofs.lemmas.Bool.{cases_eq, cases_lt}
use Rattle.std.proofs.lemmas.Bool.Decides.{nat_tests}
use Rattle.std.proofs.lemmas.List.Sums.{sum_by-cons, sum-map}
use Rattle.std.proofs.Math.Nat.{mul-le-mul_right}
use Rattle.rom_model.specs.Blocks.{IsNode, up, taking}
use Rattle.rom_model.specs.Chains.{times}
use Rattle.rom_model.specs.Machine.{Machine}
use Rattle.rom_model.proofs.Nodes.{pow_positive, pow_up, pow_gap, up_up, up_node, up_depth}
use Rattle.rom_model.proofs.Members.{under_table, beside_table}
use Rattle.rom_model.proofs.Times.{times_here, times_away, times_more, times-append}
use Rattle.rom_bucket.proofs.Entries.{firsts, find_absent}
use Rattle.rom_carry.specs.Rebuilds.{after_steps, told_by_steps}
use Rattle.rom_blob_region.specs.State.{Blob, BlobState, no_blobs, order_for, some_block, blocks_in, all_in, taken_with, blocks_taken, any_below, lies_in, is_free, first_number_where, lowest, new_body, taking_some, set_node, set_new, set_blob, blob_step, body_units}
use Rattle.rom_blob_region.specs.declared.call.BlobCall.{BlobCall}
use Rattle.rom_blob_region.specs.declared.call.BlobCall.TheVariants.{Set}
use Rattle.rom_blob_region.specs.declared.call.BlobQuery.{BlobQuery}
use Rattle.rom_blob_region.specs.declared.call.BlobReply.{BlobReply}
use Rattle.rom_blob_region.specs.declared.call.BlobReply.TheVariants as reply
use Rattle.rom_blob_region.specs.declared.call.BlobAnswer.{BlobAnswer}
use Rattle.rom_blob_region.proofs.Lowest.{none_below, all_below, some_below, up_is, up_below, unit_of}
use Rattle.rom_blob_region.proofs.Held.{taken_none, taken_table, taking_here, taking_one}
use Rattle.rom_blob_region.proofs.Places.{order_small}
use Rattle.rom_blob_region.proofs.Reserving.{body_none, body_some, taking_body}
use Rattle.rom_blob_region.proofs.Crowding.{none_first}
use Rattle.rom_blob_region.proofs.Ranges.{lowest_node}
use Rattle.rom_blob_carry.specs.Packed.{sets_of, bytes_units, NeverRise, ArePacked, AreAllSet}

-- 1 where a unit is free
abbrev one_free : Bool → ℕ
one_free taken = if taken then 0 else 1

-- how many of so many numbers from that one on do not pass
frees : (ℕ → Bool) → ℕ → ℕ → ℕ
frees test at zero = 0
frees test at (suc m) = one_free (test (at + m)) + frees test at m

most_one : (b : Bool) → one_free b ≤ 1
most_one true = omega arith
most_one false = omega arith

-- where two tests agree outside of a range, the one has as many more that do not pass as the range is long, at most
module _ (one two : ℕ → Bool) (low size : ℕ) where
  frees_near : (at m : ℕ) → ((u : ℕ) → at ≤ u → u < at + m → u < low → one u ≡ two u) → frees one at m ≤ frees two at m + (at + m - low)
  unfolding frees
  frees_near at zero same = omega arith
  frees_near at (suc m) same =
      let rest = frees_near at m (λ u lo hi less. same u lo (omega (arith, hi)) less) in
      elim (cases_lt (at + m) low) [
        | inl less ↦ omega (arith, rest, less, ap one_free (same (at + m) (omega arith) (omega arith) less))
        | inr ge ↦ omega (arith, rest, ge, most_one (one (at + m)))
      ]

  frees_far : (at m : ℕ) → ((u : ℕ) → at ≤ u → u < at + m → (u < low) ⊎ (low + size ≤ u) → one u ≡ two u) → frees one at m ≤ frees two at m + size
  unfolding frees
  frees_far at zero same = omega arith
  frees_far at (suc m) same =
      let rest = frees_far at m (λ u lo hi out. same u lo (omega (arith, hi)) out) in
      elim (cases_lt (at + m) low) [
        | inl less ↦ omega (arith, rest, ap one_free (same (at + m) (omega arith) (omega arith) (inl less)))
        | inr ge ↦ elim (cases_lt (at + m) (low + size)) [
          | inl inside ↦ omega (arith, inside, frees_near at (suc m) (λ u lo hi less. same u lo hi (inl less)))
          | inr past ↦ omega (arith, rest, ap one_free (same (at + m) (omega arith) (omega arith) (inr past)))
        ]
      ]

frees_none : (at m : ℕ) → frees (λ u. true) at m ≡ 0
unfolding frees
frees_none at zero = refl
frees_none at (suc m) = omega (arith, frees_none at m)

frees_all : (at m : ℕ) → frees (λ u. false) at m ≡ m
unfolding frees
frees_all at zero = refl
frees_all at (suc m) = omega (arith, frees_all at m)

any_true : (m : ℕ) (test : ℕ → Bool) (k : ℕ) → k < m → test k ≡ true → any_below m test ≡ true
any_true m test k lt here = go (any_below m test) refl
  where
    go : (b : Bool) → any_below m test ≡ b → any_below m test ≡ true
    go true is = is
    go false is = absurd (let never : true ≡ false = sym here ∙ none_below m test is k lt in cc)

any_same : (m : ℕ) (one two : ℕ → Bool) → ((k : ℕ) → k < m → one k ≡ two k) → any_below m one ≡ any_below m two
any_same zero one two same = refl
any_same (suc m) one two same =
    let here = same m (omega arith) in
    let rest = any_same m one two (λ k lt. same k (omega (arith, lt))) in
    λ i. here i || rest i

same_some : {A : Type 0} (a b : A) → Some a ≡ Some b → a ≡ b
same_some a b is = cc

-- the first number that passes, and those before it
first_passes : (test : ℕ → Bool) (many at x : ℕ) → first_number_where test at many ≡ Some x → (test x ≡ true) × ((y : ℕ) → at ≤ y → y < x → test y ≡ false)
first_passes test zero at x is = absurd (let never : None ≡ Some x = is in cc)
first_passes test (suc many) at x is = go (test at) refl (λ rest. first_passes test many (at + 1) x rest) is
  where
    go : (b : Bool) → test at ≡ b → (first_number_where test (at + 1) many ≡ Some x → (test x ≡ true) × ((y : ℕ) → at + 1 ≤ y → y < x → test y ≡ false)) → (if b then Some at else first_number_where test (at + 1) many) ≡ Some x → (test x ≡ true) × ((y : ℕ) → at ≤ y → y < x → test y ≡ false)
    go true here rest found = let same : at ≡ x = same_some at x found in (ap test (sym same) ∙ here, λ y lo lt. absurd (omega (arith, same, lo, lt)))
    go false here rest found =
        let both = rest found in (
          both.0,
          λ y lo lt. elim (cases_eq y at) [
            | inl same ↦ ap test same ∙ here
            | inr other ↦ both.1 y (omega (arith, lo, other)) lt
          ],
        )

negated : (b : Bool) → not b ≡ false → b ≡ true
negated true is = refl
negated false is = absurd (let never : true ≡ false = is in cc)

negated_true : (b : Bool) → not b ≡ true → b ≡ false
negated_true true is = absurd (let never : false ≡ true = is in cc)
negated_true false is = refl

-- with one block more
module _ (n order x : ℕ) (B : ℕ → Bool) (within : order ≤ n) (node : IsNode (n - order) x) where
  lies_here : (u : ℕ) → up order u ≡ x → lies_in n (taking x B) u ≡ true
  lies_here u above = any_true (n + 1) (λ k. taking x B (up k u)) order (omega (arith, within)) (ap (taking x B) above ∙ taking_here x B)

  lies_away : (u : ℕ) → IsNode n u → up order u ≢ x → lies_in n (taking x B) u ≡ lies_in n B u
  lies_away u unit away = any_same (n + 1) (λ k. taking x B (up k u)) (λ k. B (up k u)) (λ k lt. aside (up k u) (λ e. away (
      let deep : n ≡ n - order + k = up_depth k (n - order) n u x unit node e in
      let same : order ≡ k = omega (arith, deep, within) in
      ap (λ j. up j u) same ∙ e)))
    where
      aside : (y : ℕ) → y ≢ x → taking x B y ≡ B y
      aside y ne = let test : (y == x) ≡ false = grind (arith, nat_tests) in rw test refl

  -- as many units fewer are free as it has, at most
  fewer_by : frees (lies_in n B) (2 ^ n) (2 ^ n) ≤ frees (lies_in n (taking x B)) (2 ^ n) (2 ^ n) + 2 ^ order
  fewer_by = frees_far (lies_in n B) (lies_in n (taking x B)) (x * 2 ^ order) (2 ^ order) (2 ^ n) (2 ^ n) (λ u lo hi out.
      sym (lies_away u record { least = lo; most = omega (arith, hi) } (λ e.
      let bounds = up_below order u in
      let low : x * 2 ^ order ≤ u = subst (λ z. z * 2 ^ order ≤ u) e bounds.0 in
      let high : u < (x + 1) * 2 ^ order = subst (λ z. u < (z + 1) * 2 ^ order) e bounds.1 in
      ⊎_elim (λ less. absurd (omega (arith, low, less))) (λ past. absurd (omega (arith, high, past))) out)))

-- a block of one unit
unit_free : (n y : ℕ) (B : ℕ → Bool) → is_free n B 0 y ≡ true → lies_in n B y ≡ false
unit_free n y B free =
    let e : y * 2 ^ 0 + 0 ≡ y = omega arith in
    let test : ℕ → Bool = λ r. lies_in n B (y * 2 ^ 0 + r) in
    ap (lies_in n B) (sym e) ∙ none_below (2 ^ 0) test (negated_true (any_below (2 ^ 0) test) free) 0 (omega arith)

unit_taken : (n y : ℕ) (B : ℕ → Bool) → is_free n B 0 y ≡ false → lies_in n B y ≡ true
unit_taken n y B shut =
    let test : ℕ → Bool = λ r. lies_in n B (y * 2 ^ 0 + r) in
    let some = some_below (2 ^ 0) test (negated (any_below (2 ^ 0) test) shut) in
    let e : y * 2 ^ 0 + some.0 ≡ y = omega (arith, some.1) in
    ap (lies_in n B) (sym e) ∙ some.2

-- All units before q are taken, and of each block of order j those from q on are all taken or all free.
record Packing (n j q : ℕ) (B : ℕ → Bool) : Type 0 where
  before : (u : ℕ) → IsNode n u → u < q → lies_in n B u ≡ true
  alike : (u v : ℕ) → IsNode n u → IsNode n v → q ≤ u → q ≤ v → up j u ≡ up j v → lies_in n B u ≡ lies_in n B v

-- blocks of a lesser order
narrower : {n i j q : ℕ} {B : ℕ → Bool} → i ≤ j → Packing n j q B → Packing n i q B
narrower {n} {i} {j} {q} {B} le is = record {
  before = is.before;
  alike = λ u v unit_u unit_v lo_u lo_v e. is.alike u v unit_u unit_v lo_u lo_v (
      let same : j - i + i ≡ j = omega (arith, le) in
      let above : (w : ℕ) → up j w ≡ up (j - i) (up i w) = λ w. ap (λ a. up a w) (sym same) ∙ sym (up_up (j - i) i w) in
      above u ∙ ap (up (j - i)) e ∙ sym (above v));
}

module _ {n j q : ℕ} {B : ℕ → Bool} (within : j ≤ n) (is : Packing n j q B) where
  -- where no block of order j is free, all units of blocks behind q are taken
  full_behind : lowest n B j ≡ None → (c u : ℕ) → q ≤ c * 2 ^ j → IsNode n u → c * 2 ^ j ≤ u → lies_in n B u ≡ true
  full_behind none c u behind unit past =
      let i = up j u in
      let bounds = up_below j u in
      let deep : n - j + j ≡ n = omega (arith, within) in
      let node : IsNode (n - j) i = up_node j (n - j) u (subst (λ d. IsNode d u) (sym deep) unit) in
      let late : q ≤ i * 2 ^ j = elim (cases_lt i c) [
        | inl less ↦ absurd (let step : i + 1 ≤ c = omega (arith, less) in omega (arith, mul-le-mul_right (2 ^ j) step, bounds.1, past))
        | inr ge ↦ omega (arith, mul-le-mul_right (2 ^ j) ge, behind)
      ] in
      let test : ℕ → Bool = λ r. lies_in n B (i * 2 ^ j + r) in
      let shut : is_free n B j i ≡ false = none_first (is_free n B j) (2 ^ (n - j)) (2 ^ (n - j)) none i node.least (omega (arith, node.most)) in
      let some = some_below (2 ^ j) test (negated (any_below (2 ^ j) test) shut) in
      let v = i * 2 ^ j + some.0 in
      let unit_v : IsNode n v = unit_of n (n - j) j i some.0 deep node some.1 in
      let above : up j v ≡ i = up_is j v i (omega arith) (omega (arith, some.1)) in
      is.alike u v unit unit_v (omega (arith, late, bounds.0)) (omega (arith, late)) (sym above) ∙ some.2

  -- the first block that lies behind q
  behind_it : (c : ℕ) × (q ≤ c * 2 ^ j) × (c * 2 ^ j < q + 2 ^ j)
  behind_it =
      let bounds = up_below j q in
      elim (cases_eq (up j q * 2 ^ j) q) [
        | inl same ↦ (up j q, omega (arith, same), omega (arith, same, pow_positive j))
        | inr other ↦ (up j q + 1, omega (arith, bounds.1), (let more : (up j q + 1) * 2 ^ j ≡ up j q * 2 ^ j + 2 ^ j = omega arith in omega (arith, more, bounds.0, other)))
      ]

  -- so fewer units are free than a block has
  few_free : lowest n B j ≡ None → frees (lies_in n B) (2 ^ n) (2 ^ n) < 2 ^ j
  few_free none =
      let c = behind_it in
      let few = frees_far (lies_in n B) (λ u. true) q (c.0 * 2 ^ j - q) (2 ^ n) (2 ^ n) (λ u lo hi out.
      let unit : IsNode n u = record { least = lo; most = omega (arith, hi) } in
      ⊎_elim (λ less. is.before u unit less) (λ past. full_behind none c.0 u c.1 unit (omega (arith, past, c.1))) out) in
      omega (arith, few, frees_none (2 ^ n) (2 ^ n), c.1, c.2)

  block_there : 2 ^ j ≤ frees (lies_in n B) (2 ^ n) (2 ^ n) → (x : ℕ) × (lowest n B j ≡ Some x)
  block_there many = go (lowest n B j) refl
    where
      go : (found : Option ℕ) → lowest n B j ≡ found → (x : ℕ) × (lowest n B j ≡ Some x)
      go None none = absurd (omega (arith, many, few_free none))
      go (Some x) found = (x, found)

  -- a block more of order j
  with_block : (x : ℕ) → IsNode (n - j) x → Packing n j q (taking x B)
  with_block x node = record {
    before = λ u unit less. elim (cases_eq (up j u) x) [
      | inl same ↦ lies_here n j x B within node u same
      | inr other ↦ lies_away n j x B within node u unit other ∙ is.before u unit less
    ];
    alike = λ u v unit_u unit_v lo_u lo_v e. elim (cases_eq (up j u) x) [
      | inl same ↦ lies_here n j x B within node u same ∙ sym (lies_here n j x B within node v (sym e ∙ same))
      | inr other ↦ lies_away n j x B within node u unit_u other ∙ is.alike u v unit_u unit_v lo_u lo_v e ∙ sym (lies_away n j x B within node v unit_v (λ there. other (e ∙ there)))
    ];
  }

  -- the lowest unit more
  with_unit : (w : ℕ) → lowest n B 0 ≡ Some w → Packing n j (w + 1) (taking w B)
  with_unit w found = record {
    before = λ u unit less. elim (cases_eq u w) [
      | inl same ↦ lies_here n 0 w B (omega arith) node u same
      | inr other ↦ lies_away n 0 w B (omega arith) node u unit other ∙ unit_taken n u B (first.1 u (omega (arith, whole, unit.least)) (omega (arith, less, other)))
    ];
    alike = λ u v unit_u unit_v lo_u lo_v e.
        lies_away n 0 w B (omega arith) node u unit_u (λ same. absurd (omega (arith, same, lo_u)))
        ∙ is.alike u v unit_u unit_v (omega (arith, late, lo_u)) (omega (arith, late, lo_v)) e
        ∙ sym (lies_away n 0 w B (omega arith) node v unit_v (λ same. absurd (omega (arith, same, lo_v))));
  }
    where
      node : IsNode (n - 0) w
      node = lowest_node n 0 w B found

      whole : 2 ^ (n - 0) ≡ 2 ^ n
      whole = let e : n - 0 ≡ n = omega arith in ap (λ a. 2 ^ a) e

      unit_w : IsNode n w
      unit_w = let e : n - 0 ≡ n = omega arith in subst (λ d. IsNode d w) e node

      first : (is_free n B 0 w ≡ true) × ((y : ℕ) → 2 ^ (n - 0) ≤ y → y < w → is_free n B 0 y ≡ false)
      first = first_passes (is_free n B 0) (2 ^ (n - 0)) (2 ^ (n - 0)) w found

      late : q ≤ w
      late = elim (cases_lt w q) [
        | inl less ↦ absurd (let never : true ≡ false = sym (is.before w unit_w less) ∙ unit_free n w B first.0 in cc)
        | inr ge ↦ ge
      ]

-- A new heap: the bucket table takes the first units, and all others are free.
module _ (n : ℕ) (le : 4 ≤ n) where
  table_taken : (u : ℕ) → IsNode n u → u < 2 ^ n + 2 ^ (n - 4) → lies_in n (taken_with []) u ≡ true
  table_taken u unit less =
      let here : 2 ^ n + (u - 2 ^ n) ≡ u = omega (arith, unit.least) in
      let above : up (n - 4) u ≡ 16 = ap (up (n - 4)) (sym here) ∙ under_table n (u - 2 ^ n) le (omega (arith, less, unit.least)) in
      any_true (n + 1) (λ k. taken_with [] (up k u)) (n - 4) (omega arith) (ap (taken_with []) above ∙ taken_table [])

  others_free : (u : ℕ) → IsNode n u → 2 ^ n + 2 ^ (n - 4) ≤ u → lies_in n (taken_with []) u ≡ false
  others_free u unit late =
      let here : 2 ^ n + (u - 2 ^ n) ≡ u = omega (arith, unit.least) in
      all_below (n + 1) (λ k. taken_with [] (up k u)) (λ k lt. taken_none [] (up k u) (λ e. beside_table n (u - 2 ^ n) k le (omega (arith, late)) (omega (arith, unit.most)) (ap (up k) here ∙ e)) refl)

  start : (j : ℕ) → Packing n j (2 ^ n + 2 ^ (n - 4)) (taken_with [])
  start j = record {
    before = table_taken;
    alike = λ u v unit_u unit_v lo_u lo_v e. others_free u unit_u lo_u ∙ sym (others_free v unit_v lo_v);
  }

  start_free : 2 ^ n ≤ frees (lies_in n (taken_with [])) (2 ^ n) (2 ^ n) + 2 ^ (n - 4)
  start_free =
      let few = frees_far (λ u. false) (lies_in n (taken_with [])) (2 ^ n) (2 ^ (n - 4)) (2 ^ n) (2 ^ n) (λ u lo hi out.
      sym (others_free u record { least = lo; most = omega (arith, hi) } (⊎_elim (λ less. absurd (omega (arith, less, lo))) (λ past. past) out))) in
      omega (arith, few, frees_all (2 ^ n) (2 ^ n))

-- the blocks of entries with one key more
put_times : (c key : ℕ) (blob : Blob) (es : List (ℕ × Blob)) → finite.find nat_cmp key es ≡ None → times c (all_in (finite.put nat_cmp key blob es)) ≡ times c (blocks_in blob) + times c (all_in es)
put_times c key blob [] none = times-append c (blocks_in blob) []
put_times c key blob (e ∷ es) none = go (nat_cmp key e.0) (λ none. put_times c key blob es none) none
  where
    go : (r : Ordering) → (finite.find nat_cmp key es ≡ None → times c (all_in (finite.put nat_cmp key blob es)) ≡ times c (blocks_in blob) + times c (all_in es)) → cond (is_eq r) (Some e.1) (finite.find nat_cmp key es) ≡ None → times c (all_in (by_order r ((key, blob) ∷ e ∷ es) ((e.0, blob) ∷ es) (e ∷ finite.put nat_cmp key blob es))) ≡ times c (blocks_in blob) + times c (blocks_in e.1 ++ all_in es)
    go Less rest none = times-append c (blocks_in blob) (blocks_in e.1 ++ all_in es)
    go Equal rest none = absurd (let never : Some e.1 ≡ None = none in cc)
    go Greater rest none = omega (arith, times-append c (blocks_in e.1) (all_in (finite.put nat_cmp key blob es)), rest none, times-append c (blocks_in e.1) (all_in es))

-- and of a state
module _ (s : BlobState) (key : ℕ) (blob : Blob) (absent : finite.get s key ≡ None) where
  abbrev held : List ℕ
  held = all_in (finite.entries s)

  with_key : blocks_taken (finite.insert s key blob) ≡ taking blob.node (taking_some blob.body (blocks_taken s))
  with_key =
      let more : (c : ℕ) → times c (all_in (finite.entries (finite.insert s key blob))) ≡ times c (some_block blob.body ++ held) + times c (blob.node ∷ []) = λ c.
      let put = ap (λ es. times c (all_in es)) (finite.entries-insert nat_cmp_total s key blob) ∙ put_times c key blob (finite.entries s) (sym (finite.get-entries s key) ∙ absent) in
      omega (arith, put, times-append c (some_block blob.body) held) in
      let same : taking_some blob.body (blocks_taken s) ≡ taken_with (some_block blob.body ++ held) = (λ p i. taking_body blob.body held i p) in
      (λ p i. sym (taking_one blob.node (some_block blob.body ++ held) (all_in (finite.entries (finite.insert s key blob))) more i) p) ∙ ap (taking blob.node) (sym same)

abbrev free_units : ℕ → (ℕ → Bool) → ℕ
free_units n B = frees (lies_in n B) (2 ^ n) (2 ^ n)

-- A new key got its bytes, and `Packing` holds of the blocks of order i after it.
record IsSet (n i : ℕ) (s : BlobState) (key : ℕ) (bytes : List ℕ) : Type 0 where
  blob : Blob
  same : blob.bytes ≡ bytes
  step : set_blob n s key bytes None ≡ (finite.insert s key blob, reply.New)
  packing : Packing n i (blob.node + 1) (blocks_taken (finite.insert s key blob))
  room : free_units n (blocks_taken s) ≤ free_units n (blocks_taken (finite.insert s key blob)) + (1 + body_units (length bytes))

module _ {n j q : ℕ} {s : BlobState} {key : ℕ} (within : j ≤ n) (is : Packing n j q (blocks_taken s)) (absent : finite.get s key ≡ None) where
  -- where this is the block for its bytes
  with_node : (i : ℕ) (bytes : List ℕ) (body : Option ℕ) → i ≤ n → new_body n (blocks_taken s) bytes ≡ Some body → Packing n i q (taking_some body (blocks_taken s)) → free_units n (blocks_taken s) ≤ free_units n (taking_some body (blocks_taken s)) + body_units (length bytes) → 1 + body_units (length bytes) ≤ free_units n (blocks_taken s) → IsSet n i s key bytes
  with_node i bytes body small chosen packed room many =
      let found = block_there {n = n} {j = 0} {q = q} {B = taking_some body (blocks_taken s)} (omega arith) (narrower (omega arith) packed) (omega (arith, room, many)) in
      let w = found.0 in
      let blob : Blob = record { bytes = bytes; node = w; body = body } in
      let more = with_key s key blob absent in
      let unit : IsNode (n - 0) w = lowest_node n 0 w (taking_some body (blocks_taken s)) found.1 in
      record {
        blob = blob;
        same = refl;
        step = ap (set_new n s key bytes) chosen ∙ ap (set_node s key bytes body) found.1;
        packing = subst (λ (T : ℕ → Bool). Packing n i (w + 1) T) (sym more) (with_unit small packed w found.1);
        room = omega (arith, room, fewer_by n 0 w (taking_some body (blocks_taken s)) (omega arith) unit, ap (free_units n) more);
      }

  set_bare : (bytes : List ℕ) → length bytes ≡ 0 → 1 + body_units (length bytes) ≤ free_units n (blocks_taken s) → IsSet n j s key bytes
  set_bare bytes none many = with_node j bytes None within (body_none n (blocks_taken s) bytes none) is (omega arith) many

  set_some : (bytes : List ℕ) → length bytes ≢ 0 → order_for (length bytes) ≤ j → body_units (length bytes) ≡ 2 ^ order_for (length bytes) → 1 + body_units (length bytes) ≤ free_units n (blocks_taken s) → IsSet n (order_for (length bytes)) s key bytes
  set_some bytes some le units many =
      let i = order_for (length bytes) in
      let small : i ≤ n = omega (arith, le, within) in
      let packed : Packing n i q (blocks_taken s) = narrower le is in
      let found = block_there small packed (omega (arith, units, many)) in
      let node : IsNode (n - i) found.0 = lowest_node n i found.0 (blocks_taken s) found.1 in
      with_node i bytes (Some found.0) small (body_some n (blocks_taken s) bytes some ∙ ap (option_map Some) found.1) (with_block small packed found.0 node) (omega (arith, units, fewer_by n i found.0 (blocks_taken s) small node)) many

all_both : {X : Type 0} {P Q R : X → Type 0} → ((x : X) → P x → Q x → R x) → (xs : List X) → AllByRecursion P xs → AllByRecursion Q xs → AllByRecursion R xs
all_both join [] one two = tt
all_both join (x ∷ xs) one two = (join x one.0 two.0, all_both join xs one.1 two.1)

lesser : (i j : ℕ) → 2 ^ i ≤ 2 ^ j → i ≤ j
lesser i j le = elim (cases_lt j i) [ inl less ↦ absurd (omega (arith, le, pow_gap j i less, pow_positive j)) | inr ge ↦ ge ]

-- the next key, and the order of blocks that is enough for those after it
next_set : {n j q : ℕ} {s : BlobState} {key : ℕ} → j ≤ n → Packing n j q (blocks_taken s) → finite.get s key ≡ None → (bytes : List ℕ) → body_units (length bytes) ≤ 2 ^ j → 1 + body_units (length bytes) ≤ free_units n (blocks_taken s)
    → (i : ℕ) × (i ≤ n) × IsSet n i s key bytes × ((m : ℕ) → m ≤ 2 ^ j → m ≤ body_units (length bytes) → m ≤ 2 ^ i)
next_set {n} {j} {q} {s} {key} within is absent bytes few many = elim (cases_eq (length bytes) 0) [
  | inl none ↦ (j, within, set_bare within is absent bytes none many, λ m wide narrow. wide)
  | inr some ↦
      let test : (length bytes == 0) ≡ false = grind (arith, nat_tests) in
      let units : body_units (length bytes) ≡ 2 ^ order_for (length bytes) = rw test refl in
      let le : order_for (length bytes) ≤ j = lesser (order_for (length bytes)) j (omega (arith, units, few)) in
      (order_for (length bytes), omega (arith, le, within), set_some within is absent bytes some le units many, λ m wide narrow. omega (arith, narrow, units))
]

apart : (q k : ℕ) → q ≢ k → eq_by_cmp nat_cmp q k ≡ false
apart q k ne = let test : (q == k) ≡ false = grind (arith, nat_tests) in unsigned_tied q k ∙ test

same_key : (q k : ℕ) → q ≡ k → eq_by_cmp nat_cmp q k ≡ true
same_key q k e = let test : (q == k) ≡ true = grind (arith, nat_tests) in unsigned_tied q k ∙ test

abbrev units_of_all : List (ℕ × List ℕ) → ℕ
units_of_all es = sum_by (λ e. 1 + bytes_units e) es

module _ (machine : Machine BlobState BlobCall BlobQuery BlobReply BlobAnswer) (steps_so : machine.step ≡ blob_step) (n : ℕ) where
  -- the entries are set one after another, from a state in which none of their keys is
  record AreSet (s : BlobState) (count : ℕ) (es : List (ℕ × List ℕ)) : Type 0 where
    told_new : AllByRecursion (λ told. told ≡ reply.New) (told_by_steps machine n s count (sets_of es))
    answered : length (told_by_steps machine n s count (sets_of es)) ≡ length (sets_of es)
    found : (q : ℕ) → 0 < times q (firsts es) → option_map (λ blob. blob.bytes) (finite.get (after_steps machine n s count (sets_of es)) q) ≡ finite.find nat_cmp q es
    kept : (q : ℕ) → times q (firsts es) ≡ 0 → finite.get (after_steps machine n s count (sets_of es)) q ≡ finite.get s q

  -- one more before them
  one_more : (s : BlobState) (count : ℕ) (e : ℕ × List ℕ) (es : List (ℕ × List ℕ)) (blob : Blob) → blob.bytes ≡ e.1 → machine.step n s count (Set e.0 e.1) ≡ (finite.insert s e.0 blob, reply.New) → times e.0 (firsts es) ≡ 0 → AreSet (finite.insert s e.0 blob) (count + 1) es → AreSet s count (e ∷ es)
  one_more s count e es blob bytes_are step once rest =
      let t : BlobState = finite.insert s e.0 blob in
      let after : after_steps machine n s count (sets_of (e ∷ es)) ≡ after_steps machine n t (count + 1) (sets_of es) = ap (λ (d : BlobState × BlobReply). after_steps machine n d.0 (count + 1) (sets_of es)) step in
      let told : told_by_steps machine n s count (sets_of (e ∷ es)) ≡ reply.New ∷ told_by_steps machine n t (count + 1) (sets_of es) = ap (λ (d : BlobState × BlobReply). d.1 ∷ told_by_steps machine n d.0 (count + 1) (sets_of es)) step in
      let at : (q : ℕ) → finite.get t q ≡ cond (eq_by_cmp nat_cmp q e.0) (Some blob) (finite.get s q) = λ q. finite.get-insert nat_cmp_total s e.0 blob q in
      record {
        told_new = subst (λ rs. AllByRecursion (λ told. told ≡ reply.New) rs) (sym told) (refl, rest.told_new);
        answered = ap length told ∙ ap suc rest.answered;
        found = λ q some. elim (cases_eq q e.0) [
          | inl same ↦
              let there : finite.get t q ≡ Some blob = at q ∙ ap (λ b. cond b (Some blob) (finite.get s q)) (same_key q e.0 same) in
              let first : finite.find nat_cmp q (e ∷ es) ≡ Some e.1 = ap (λ b. cond b (Some e.1) (finite.find nat_cmp q es)) (same_key q e.0 same) in
              ap (λ (m : BlobState). option_map (λ blob. blob.bytes) (finite.get m q)) after
              ∙ ap (option_map (λ blob. blob.bytes)) (rest.kept q (ap (λ k. times k (firsts es)) same ∙ once) ∙ there)
              ∙ ap Some bytes_are ∙ sym first
          | inr other ↦
              let behind : finite.find nat_cmp q (e ∷ es) ≡ finite.find nat_cmp q es = ap (λ b. cond b (Some e.1) (finite.find nat_cmp q es)) (apart q e.0 other) in
              ap (λ (m : BlobState). option_map (λ blob. blob.bytes) (finite.get m q)) after
              ∙ rest.found q (omega (arith, some, times_away q e.0 (firsts es) (λ e. other (sym e)))) ∙ sym behind
        ];
        kept = λ q none.
            let other : q ≢ e.0 = λ same. absurd (omega (arith, none, times_here q (firsts es), ap (λ k. times q (k ∷ firsts es)) same)) in
            ap (λ (m : BlobState). finite.get m q) after
            ∙ rest.kept q (omega (arith, none, times_more q e.0 (firsts es)))
            ∙ at q ∙ ap (λ b. cond b (Some blob) (finite.get s q)) (apart q e.0 other);
      }

  all_set : (es : List (ℕ × List ℕ)) (s : BlobState) (count j q : ℕ) → j ≤ n → Packing n j q (blocks_taken s) → AllByRecursion (λ e. bytes_units e ≤ 2 ^ j) es → NeverRise es → units_of_all es ≤ free_units n (blocks_taken s) → ((k : ℕ) → times k (firsts es) ≤ 1) → ((k : ℕ) → 0 < times k (firsts es) → finite.get s k ≡ None) → AreSet s count es
  all_set [] s count j q within is narrow falling room once absent = record { told_new = tt; answered = refl; found = λ q some. absurd (omega (arith, some)); kept = λ q none. refl }
  all_set (e ∷ es) s count j q within is narrow falling room once absent =
      let gone : finite.get s e.0 ≡ None = absent e.0 (omega (arith, times_here e.0 (firsts es))) in
      let units = sum_by-cons (λ e. 1 + bytes_units e) e es in
      let next = next_set within is gone e.1 narrow.0 (omega (arith, room, units)) in
      let i = next.0 in
      let made = next.2 in
      let t : BlobState = finite.insert s e.0 made.blob in
      let step : machine.step n s count (Set e.0 e.1) ≡ (t, reply.New) = ap (λ f. f n s count (Set e.0 e.1)) steps_so ∙ ap (set_blob n s e.0 e.1) gone ∙ made.step in
      let first : times e.0 (firsts es) ≡ 0 = omega (arith, once e.0, times_here e.0 (firsts es)) in
      let new : (k : ℕ) → 0 < times k (firsts es) → finite.get t k ≡ None = λ k some.
      let other : k ≢ e.0 = λ same. absurd (omega (arith, some, ap (λ x. times x (firsts es)) same, first)) in
      finite.get-insert nat_cmp_total s e.0 made.blob k ∙ ap (λ b. cond b (Some made.blob) (finite.get s k)) (apart k e.0 other) ∙ absent k (omega (arith, some, times_more k e.0 (firsts es))) in
      let later : AllByRecursion (λ e. bytes_units e ≤ 2 ^ i) es = all_both (λ f wide less. next.3 (bytes_units f) wide less) es narrow.1 falling.0 in
      one_more s count e es made.blob made.same step first
      (all_set es t (count + 1) i (made.blob.node + 1) next.1 made.packing later falling.1 (omega (arith, room, units, made.room)) (λ k. omega (arith, once k, times_more k e.0 (firsts es))) new)

-- no entry has more than eight units for its bytes
eight_most : (es : List (ℕ × List ℕ)) → AllByRecursion (λ e. bytes_units e ≤ 2 ^ 3) es
eight_most [] = tt
eight_most (e ∷ es) = (go (length e.1 == 0), eight_most es)
  where
    go : (b : Bool) → (if b then 0 else 2 ^ order_for (length e.1)) ≤ 2 ^ 3
    go true = omega arith
    go false =
        let same : order_for (length e.1) + (3 - order_for (length e.1)) ≡ 3 = omega (arith, order_small (length e.1)) in
        subst (λ a. 2 ^ order_for (length e.1) ≤ 2 ^ a) same (pow_up (order_for (length e.1)) (3 - order_for (length e.1)))

-- So keys with bytes that fit by their units are all set in a new heap, where those with most units come first.
pub packs : (machine : Machine BlobState BlobCall BlobQuery BlobReply BlobAnswer) → machine.step ≡ blob_step → (n : ℕ) (es : List (ℕ × List ℕ)) → ArePacked n es → AreAllSet machine n es
packs machine steps_so n es packed = record {
  told_new = set.told_new;
  answered = set.answered;
  bytes_are = λ key. elim (cases_lt 0 (times key (firsts es))) [
    | inl some ↦ set.found key some
    | inr gone ↦
        let none : times key (firsts es) ≡ 0 = omega (arith, gone) in
        ap (option_map (λ blob. blob.bytes)) (set.kept key none ∙ finite.get-empty nat_cmp key) ∙ sym (find_absent key es none)
  ];
}
  where
    empty : blocks_taken no_blobs ≡ taken_with []
    empty = ap taken_with (nothing (finite.entries no_blobs) (sym (finite.len-entries no_blobs) ∙ finite.len-empty nat_cmp Blob))
      where
        nothing : (bs : List (ℕ × Blob)) → length bs ≡ 0 → all_in bs ≡ []
        nothing [] none = refl
        nothing (b ∷ bs) none = absurd (omega (arith, none))

    set : AreSet machine steps_so n no_blobs 0 es
    set = all_set machine steps_so n es no_blobs 0 3 (2 ^ n + 2 ^ (n - 4)) (omega (arith, packed.order.least))
        (subst (λ (T : ℕ → Bool). Packing n 3 (2 ^ n + 2 ^ (n - 4)) T) (sym empty) (start n packed.order.least 3)) (eight_most es) packed.falling
        (omega (arith, packed.room, sum-map (λ e. 1 + bytes_units e) es, start_free n packed.order.least, ap (free_units n) empty)) packed.once (λ k some. finite.get-empty nat_cmp k)
