-- A node by itself.
use Rattle.std.proofs.Common.{◌≡◌, inl, inr, ℕ, ◌+◌, List, [], ◌∷◌, sym, ◌∙◌, ap, arith}
use Rattle.std.specs.Prelude.{slice_index}
use Rattle.std.proofs.lemmas.Bool.{cases_lt}
use Rattle.rom_model.specs.Space.{ChangesOnly}
use Rattle.rom_model.proofs.Times.{times_here}
use Rattle.rom_order_region.specs.Tree.{Leaf, Node}
use Rattle.rom_order_region.specs.Nodes.{node_at, BuildsTree}

pub single : (n b at key value : ℕ) (w w1 w2 : List ℕ) → at ≡ node_at n b → ChangesOnly at 4 w w1 → ChangesOnly (at + 4) 4 w1 w2
    → slice_index w1 at ≡ key → slice_index w1 (at + 1) ≡ value → slice_index w1 (at + 2) ≡ 0 → slice_index w1 (at + 3) ≡ 0
    → slice_index w2 (at + 4) ≡ 1 → slice_index w2 (at + 4 + 1) ≡ 0 → slice_index w2 (at + 4 + 2) ≡ 0 → slice_index w2 (at + 4 + 3) ≡ 0
    → BuildsTree n (b ∷ []) w w2 (Node b key value Leaf Leaf)
single n b at key value w w1 w2 here one two first second third fourth fifth sixth seventh eighth =
    let e5 : at + 4 + 1 ≡ at + 5 = omega arith in
    let e6 : at + 4 + 2 ≡ at + 6 = omega arith in
    let e7 : at + 4 + 3 ≡ at + 7 = omega arith in
    let word : (j v : ℕ) → slice_index w2 (at + j) ≡ v → slice_index w2 (node_at n b + j) ≡ v = λ j v is. ap (λ a. slice_index w2 (a + j)) (sym here) ∙ is in
    record {
      stands = (
        record {
          key_is = ap (λ a. slice_index w2 a) (sym here) ∙ two.before at (omega arith) ∙ first;
          value_is = word 1 value (two.before (at + 1) (omega arith) ∙ second);
          sixth = word 5 0 (ap (λ a. slice_index w2 a) (sym e5) ∙ sixth);
          seventh = word 6 0 (ap (λ a. slice_index w2 a) (sym e6) ∙ seventh);
          eighth = word 7 0 (ap (λ a. slice_index w2 a) (sym e7) ∙ eighth);
        },
        record {
          left_is = word 2 0 (two.before (at + 2) (omega arith) ∙ third);
          right_is = word 3 0 (two.before (at + 3) (omega arith) ∙ fourth);
          high_is = word 4 1 fifth;
        },
        tt,
        tt,
      );
      others = record {
        as_long = two.as_long ∙ one.as_long;
        others = λ k outside. elim (cases_lt k at) [
          | inl lt ↦ two.before k (omega arith) ∙ one.before k lt
          | inr ge ↦ elim (cases_lt k (at + 8)) [
            | inl lt ↦ absurd (outside b (omega (arith, times_here b [])) record { least = omega (arith, here, ge); most = omega (arith, here, lt) })
            | inr le ↦ two.behind k (omega (arith, le)) ∙ one.behind k (omega (arith, le))
          ]
        ];
      };
    }
