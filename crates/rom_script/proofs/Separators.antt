-- Where members are separated.
use Rattle.std.specs.Prelude.{◌≡◌, ℕ, ◌+◌, ◌<◌, List, ◌∷◌, ◌++◌, length, take, drop, slice_index, codes}
use Rattle.std.proofs.Common.{sym, ap, ◌∙◌, arith}
use Rattle.std.proofs.lemmas.List.{take-append-drop, drop_more, length-append, get_or-append-add, get_or_append_left}
use Rattle.memchr.specs.Find.{OccursAt}

-- the separator is found at a place of the text: what stands before it and behind it
module _ (text : List ℕ) (k : ℕ) (at : OccursAt text (codes " ; ") k) where
  next : (j : ℕ) → j < 3 → drop (k + j) text ≡ slice_index (codes " ; ") j ∷ drop (k + (j + 1)) text
  next j within =
      drop_more text (k + j) 0 (omega (arith, at.fits, within))
      ∙ (λ i. at.reads j within i ∷ drop (shift i) text)
    where
      shift : (k + j) + 1 ≡ k + (j + 1)
      shift = omega arith

  pub parts_at : text ≡ take k text ++ (codes " ; " ++ drop (k + 3) text)
  parts_at =
      let start : k ≡ k + 0 = omega arith in
      let behind : drop k text ≡ codes " ; " ++ drop (k + 3) text =
      ap (λ m. drop m text) start ∙ next 0 (omega arith) ∙ ap (λ t. 32 ∷ t) (next 1 (omega arith) ∙ ap (λ t. 59 ∷ t) (next 2 (omega arith))) in
      sym (take-append-drop k text) ∙ ap (λ t. take k text ++ t) behind

-- a text that has it between two parts
pub stands_between : (text front back : List ℕ) → text ≡ front ++ (codes " ; " ++ back) → OccursAt text (codes " ; ") (length front)
stands_between text front back is = record {
  fits = omega (arith, ap length is, length-append front (codes " ; " ++ back), length-append (codes " ; ") back);
  reads = λ j within. ap (λ t. slice_index t (length front + j)) is ∙ get_or-append-add front (codes " ; " ++ back) j 0 ∙ get_or_append_left (codes " ; ") back 0 j within;
}
