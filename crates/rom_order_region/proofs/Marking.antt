-- Marks of the blocks that were reached.
use Rattle.std.proofs.Common.{◌≡◌, inl, inr, ℕ, ◌+◌, ◌-◌, ◌^◌, ◌<◌, Bool, true, false, List, ◌∷◌, length, get_or, set, refl, sym, ◌∙◌, ap, arith, length-set, get_or-set_other, get_or-set_same}
use Rattle.std.specs.Prelude.{nat_lt, nat_le, ◌&&◌}
use Rattle.std.proofs.lemmas.Bool.{cases_eq, cases_lt}
use Rattle.rom_model.specs.Blocks.{IsOrder}
use Rattle.rom_model.specs.Chains.{times}
use Rattle.rom_model.proofs.Times.{times_here, times_away}
use Rattle.rom_order_region.proofs.Frame.{half_pow}
use Rattle.rom_order_region.specs.Region.{taken_pairs}
use Rattle.rom_order_region.specs.Marks.{AreNodeMarks}
use Rattle.rom_order_region.proofs.Pairs.{pair_taken, pair_below, pair_absent}

module _ (n b : ℕ) (seen : List ℕ) (marks : List Bool) (order : IsOrder n) (hi : b < 2 ^ (n - 1)) (are : AreNodeMarks n seen marks) where
  place : 2 ^ (n - 1) + b < length marks
  place = omega (arith, are.as_long, half_pow n (omega (arith, order.least)), hi)

  own : 2 ^ (n - 1) + b - 2 ^ (n - 1) ≡ b
  own = omega arith

  pub unmarked : get_or marks (2 ^ (n - 1) + b) false ≡ false → times b seen ≡ 0
  unmarked is = elim (cases_lt 0 (times b seen)) [
    | inl some ↦ absurd (let yes : taken_pairs n seen (2 ^ (n - 1) + b) ≡ true = pair_taken n seen (2 ^ (n - 1) + b) (omega arith) (omega (arith, some, ap (λ x. times x seen) own)) in let nay : taken_pairs n seen (2 ^ (n - 1) + b) ≡ false = sym (are.marked (2 ^ (n - 1) + b) place) ∙ is in cc)
    | inr gone ↦ omega arith
  ]

  pub marked : get_or marks (2 ^ (n - 1) + b) false ≡ true → 0 < times b seen
  marked is = elim (cases_lt 0 (times b seen)) [
    | inl some ↦ some
    | inr gone ↦ absurd (let nay : taken_pairs n seen (2 ^ (n - 1) + b) ≡ false = pair_absent n seen (2 ^ (n - 1) + b) (omega (arith, gone, ap (λ x. times x seen) own)) in let yes : taken_pairs n seen (2 ^ (n - 1) + b) ≡ true = sym (are.marked (2 ^ (n - 1) + b) place) ∙ is in cc)
  ]

  -- one mark more
  pub mark_more : times b seen ≡ 0 → AreNodeMarks n (b ∷ seen) (set marks (2 ^ (n - 1) + b) true)
  mark_more none = record {
    as_long = length-set marks (2 ^ (n - 1) + b) true ∙ are.as_long;
    marked = λ i lt. one i (omega (arith, lt, length-set marks (2 ^ (n - 1) + b) true));
    apart = record {
      different = λ c. elim (cases_eq b c) [
        | inl same ↦ omega (arith, ap (λ (a : ℕ). times a seen) same, none, times_here b seen, ap (λ (a : ℕ). times a (b ∷ seen)) same)
        | inr other ↦ omega (arith, times_away c b seen other, are.apart.different c)
      ];
      within = λ c some. elim (cases_eq b c) [
        | inl same ↦ omega (arith, hi, same)
        | inr other ↦ are.apart.within c (omega (arith, times_away c b seen other, some))
      ];
    };
  }
    where
      one : (i : ℕ) → i < length marks → get_or (set marks (2 ^ (n - 1) + b) true) i false ≡ taken_pairs n (b ∷ seen) i
      one i fits = elim (cases_eq i (2 ^ (n - 1) + b)) [
        | inl same ↦
            let low : 2 ^ (n - 1) + b < length marks = omega (arith, fits, same) in
            let here : get_or (set marks (2 ^ (n - 1) + b) true) i false ≡ true = rw same (rw get_or-set_same refl) in
            here ∙ sym (pair_taken n (b ∷ seen) i (omega arith) (let at : i - 2 ^ (n - 1) ≡ b = omega arith in omega (arith, ap (λ x. times x (b ∷ seen)) at, times_here b seen)))
        | inr other ↦
            let stays : get_or (set marks (2 ^ (n - 1) + b) true) i false ≡ get_or marks i false = rw get_or-set_other refl in
            stays ∙ are.marked i fits ∙ elim (cases_lt i (2 ^ (n - 1))) [
              | inl lt ↦ pair_below n seen i lt ∙ sym (pair_below n (b ∷ seen) i lt)
              | inr ge ↦ let ne : b ≡ i - 2 ^ (n - 1) → ⊥ = λ e. other (omega (arith, e, ge)) in
                  ap (λ t. nat_le (2 ^ (n - 1)) i && nat_lt 0 t) (sym (times_away (i - 2 ^ (n - 1)) b seen ne))
            ]
      ]
