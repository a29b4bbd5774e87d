-- A list in an array whose cells past it all hold the same.
use Rattle.std.specs.Prelude.{◌≡◌, ℕ, ◌+◌, ◌-◌, ◌≤◌, List, [], ◌∷◌, ◌++◌, length, take, drop, replicate, slice_index_or}
use Rattle.std.proofs.Common.{suc, refl, sym, ap, ◌∙◌, arith, length-drop, length-take-le}
use Rattle.std.proofs.lemmas.List.{take-append-drop, get_or-drop}

-- n cells, of which the first len hold the list and the others the filler
pub record IsPadded {X : Type 0} (fill : X) (n len : ℕ) (cells : List X) : Type 0 where
  pub within : len ≤ n
  pub whole : length cells ≡ n
  pub past : (k : ℕ) → len ≤ k → slice_index_or cells k fill ≡ fill

module _ {X : Type 0} (fill : X) where
  all_fill : (xs : List X) → ((k : ℕ) → slice_index_or xs k fill ≡ fill) → xs ≡ replicate (length xs) fill
  all_fill [] past = refl
  all_fill (x ∷ xs) past = λ i. past 0 i ∷ all_fill xs (λ k. past (suc k)) i

  -- the list is what the cells hold, with the filler past it
  pub padded_again : (n len : ℕ) (cells : List X) → IsPadded fill n len cells → take len cells ++ replicate (n - length (take len cells)) fill ≡ cells
  padded_again n len cells p =
      let within : len ≤ length cells = omega (arith, p.within, p.whole) in
      let rest : drop len cells ≡ replicate (length (drop len cells)) fill = all_fill (drop len cells) (λ k. get_or-drop len cells k fill ∙ p.past (len + k) (omega arith)) in
      let many : length (drop len cells) ≡ n - length (take len cells) = omega (arith, p.whole, length-drop len cells, length-take-le len cells within) in
      ap (λ ys. take len cells ++ ys) (ap (λ m. replicate m fill) (sym many) ∙ sym rest) ∙ take-append-drop len cells

  pub padded_len : (n len : ℕ) (cells : List X) → IsPadded fill n len cells → length (take len cells) ≡ len
  padded_len n len cells p = length-take-le len cells (omega (arith, p.within, p.whole))
