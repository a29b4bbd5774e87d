-- New regions, and counted ones.
use Rattle.std.proofs.Common.{◌≡◌, inl, inr, ℕ, ◌+◌, ◌*◌, ◌^◌, ◌<◌, ◌≤◌, List, [], length, refl, sym, ◌∙◌, ap, arith, length-set, get_or-set_other}
use Rattle.std.specs.Prelude.{slice_index, slice_set}
use Rattle.std.specs.Ordering.{nat_cmp}
use Rattle.std.specs.FinMap as map
use Rattle.std.proofs.lemmas.Bool.{cases_eq}
use Rattle.std.proofs.lemmas.Grind.{get_or-set_at}
use Rattle.rom_model.specs.Space.{ChangesOnly}
use Rattle.rom_model.specs.History.{LAST_COUNT}
use Rattle.rom_model.specs.Blocks.{IsOrder, AreWords, nothing, region_len}
use Rattle.rom_model.proofs.Nodes.{pow_positive}
use Rattle.rom_model.proofs.Members.{words_same}
use Rattle.rom_order_region.specs.Tree.{Leaf, blocks}
use Rattle.rom_order_region.proofs.Sorted.{has_entries}
use Rattle.rom_order_region.specs.State.{Pairs}
use Rattle.rom_order_region.specs.Region.{taken_pairs, IndexContents}
use Rattle.rom_order_region.proofs.Pairs.{pair_absent}
use Rattle.rom_order_region.proofs.Regions.{tree_same, stands_above}

no_entries : map.entries (map.empty {X = ℕ} {R = nat_cmp}) ≡ []
no_entries = has_entries (map.empty {X = ℕ} {R = nat_cmp}) [] tt (λ q. map.get-empty nat_cmp q)

pub fresh : (n : ℕ) (w0 w1 w2 w3 w4 : List ℕ) → IsOrder n → length w0 ≡ region_len n → ((k : ℕ) → 0 ≤ k → k < 0 + 16 → slice_index w1 k ≡ 0) → ChangesOnly 0 16 w0 w1 → w2 ≡ slice_set w1 0 3 → w3 ≡ slice_set w2 1 1
    → AreWords n nothing w4 → slice_index w4 16 ≡ 0 → ChangesOnly 16 (2 * 2 ^ n) w3 w4 → IndexContents n w4 map.empty 0
fresh n w0 w1 w2 w3 w4 order sized zeros only one two words last tree =
    let long2 : length w2 ≡ length w0 = ap length one ∙ length-set w1 0 3 ∙ only.as_long in
    let long3 : length w3 ≡ length w0 = ap length two ∙ length-set w2 1 1 ∙ long2 in
    let first : slice_index w3 0 ≡ 3 = ap (λ x. slice_index x 0) two ∙ get_or-set_other w2 1 0 1 0 (λ e. absurd (omega (arith, e))) ∙ ap (λ x. slice_index x 0) one ∙ get_or-set_at w1 0 0 3 0 refl (omega (arith, only.as_long, sized)) in
    let second : slice_index w3 1 ≡ 1 = ap (λ x. slice_index x 1) two ∙ get_or-set_at w2 1 1 1 0 refl (omega (arith, long2, sized)) in
    let other : (k : ℕ) → 2 ≤ k → k < 16 → slice_index w4 k ≡ 0 = λ k lo hi. tree.before k hi ∙ ap (λ x. slice_index x k) two ∙ get_or-set_other w2 1 k 1 0 (λ e. absurd (omega (arith, e, lo))) ∙ ap (λ x. slice_index x k) one ∙ get_or-set_other w1 0 k 3 0 (λ e. absurd (omega (arith, e, lo))) ∙ zeros k (omega arith) (omega (arith, hi)) in (
      Leaf,
      record {
        as_long = tree.as_long ∙ long3 ∙ sized;
        kind = tree.before 0 (omega arith) ∙ first;
        version = tree.before 1 (omega arith) ∙ second;
        count_is = other 2 (omega arith) (omega arith);
        count_fits = omega arith;
        top = record { at_is = other 3 (omega arith) (omega arith); stands = tt; apart = record { different = λ b. omega arith; within = λ b some. absurd (omega (arith, some)) } };
        balance = tt;
        size = other 4 (omega arith) (omega arith) ∙ sym (map.len-empty nat_cmp ℕ);
        zeros = λ k lo hi. elim (cases_eq k 16) [
          | inl same ↦ ap (λ a. slice_index w4 a) same ∙ last
          | inr below ↦ other k (omega arith) (omega arith)
        ];
        entries_are = no_entries;
        tree = words_same n nothing (taken_pairs n []) w4 (λ i. sym (pair_absent n [] i refl)) words;
      },
    )

-- one update more is counted
pub raised : {n : ℕ} {w w' : List ℕ} {s : Pairs} {k : ℕ} → k < LAST_COUNT → slice_index w' 2 ≡ slice_index w 2 + 1 → ChangesOnly 2 1 w w' → IndexContents n w s k → IndexContents n w' s (k + 1)
raised {n} {w} {w'} {s} {k} lt word only held =
    let is = held.1 in
    let t = held.0 in
    let same : (a : ℕ) → (a ≡ 2 → ⊥) → slice_index w' a ≡ slice_index w a = λ a ne. elim (cases_eq a 2) [
      | inl two ↦ absurd (ne two)
      | inr not_two ↦ elim (cases_eq a 0) [
        | inl zero_is ↦ only.before a (omega arith)
        | inr not_zero ↦ elim (cases_eq a 1) [
          | inl one_is ↦ only.before a (omega arith)
          | inr not_one ↦ only.behind a (omega arith)
        ]
      ]
    ] in (
      t,
      record {
        as_long = only.as_long ∙ is.as_long;
        kind = same 0 (λ e. absurd (omega (arith, e))) ∙ is.kind;
        version = same 1 (λ e. absurd (omega (arith, e))) ∙ is.version;
        count_is = word ∙ ap (λ m. m + 1) is.count_is;
        count_fits = omega (arith, lt);
        top = record {
          at_is = same 3 (λ e. absurd (omega (arith, e))) ∙ is.top.at_is;
          stands = stands_above n w w' t (λ a le. same a (λ e. absurd (omega (arith, e, le, pow_positive n)))) is.top.stands;
          apart = is.top.apart;
        };
        balance = is.balance;
        size = same 4 (λ e. absurd (omega (arith, e))) ∙ is.size;
        zeros = λ a lo hi. same a (λ e. absurd (omega (arith, e, lo))) ∙ is.zeros a lo hi;
        entries_are = is.entries_are;
        tree = tree_same n (taken_pairs n (blocks t)) w w' (λ a lo hi. same a (λ e. absurd (omega (arith, e, lo)))) is.tree;
      },
    )
