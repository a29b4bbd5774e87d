-- Marks of the blocks that were reached.
use Rattle.std.proofs.Common.{◌≡◌, inl, inr, ℕ, zero, suc, ◌*◌, ◌/◌, ◌^◌, ◌-◌, ◌<◌, ◌≤◌, Bool, true, false, List, [], ◌∷◌, length, get_or, set, refl, sym, ◌∙◌, ap, arith, length-set, get_or-set_other, get_or-set_same}
use Rattle.std.specs.Prelude.{◌==◌, ◌||◌, nat_lt}
use Rattle.std.proofs.lemmas.Bool.{cases_eq}
use Rattle.rom_model.specs.Blocks.{up}
use Rattle.rom_model.specs.Chains.{times}
use Rattle.rom_model.proofs.Times.{times_here, times_away}
use Rattle.rom_model.proofs.Nodes.{pow_positive, up_half, up_least}
use Rattle.rom_model.proofs.Members.{quarter_pow}
use Rattle.rom_block.specs.Walk.{NoneAbove}
use Rattle.rom_blob_region.specs.State.{taken_with}
use Rattle.rom_blob_region.specs.Region.{AreBlobsApart}
use Rattle.rom_blob_region.proofs.Held.{taken_block, taken_table, taken_none, taken_same, apart_same}
use Rattle.rom_blob_region.specs.Walks.{AreBlobMarks}
use Rattle.rom_blob_region.proofs.Blocks.{none_apart}

-- one mark more
pub mark_more : (n x : ℕ) (xs : List ℕ) (marks : List Bool) → x < 2 * 2 ^ n → AreBlobMarks n xs marks → AreBlobsApart n (x ∷ xs) → AreBlobMarks n (x ∷ xs) (set marks x true)
mark_more n x xs marks fits are apart = record {
  as_long = length-set marks x true ∙ are.as_long;
  marked = λ i lt. one i (omega (arith, lt, length-set marks x true));
  apart = apart;
}
  where
    one : (i : ℕ) → i < length marks → get_or (set marks x true) i false ≡ taken_with (x ∷ xs) i
    one i lt = elim (cases_eq i x) [
      | inl same ↦
          let low : x < length marks = omega (arith, fits, are.as_long) in
          let here : get_or (set marks x true) i false ≡ true = rw same (rw get_or-set_same refl) in
          here ∙ sym (ap (taken_with (x ∷ xs)) same ∙ taken_block (x ∷ xs) x (omega (arith, times_here x xs)))
      | inr other ↦
          let stays : get_or (set marks x true) i false ≡ get_or marks i false = rw get_or-set_other refl in
          stays ∙ are.marked i lt ∙ ap (λ t. (i == 16) || nat_lt 0 t) (sym (times_away i x xs (λ e. other (sym e))))
    ]

-- the same blocks in another order
pub marks_same : (n : ℕ) (xs ys : List ℕ) (marks : List Bool) → ((c : ℕ) → times c xs ≡ times c ys) → AreBlobMarks n xs marks → AreBlobMarks n ys marks
marks_same n xs ys marks same are = record {
  as_long = are.as_long;
  marked = λ i lt. are.marked i lt ∙ taken_same xs ys same i;
  apart = apart_same n xs ys same are.apart;
}

-- the table's node is marked
pub table_high : (n : ℕ) → 4 ≤ n → 16 < 2 * 2 ^ n
table_high n le = omega (arith, quarter_pow n le, pow_positive (n - 4))

pub table_marked : (n : ℕ) (marks : List Bool) → 4 ≤ n → length marks ≡ 2 * 2 ^ n → ((i : ℕ) → i < length marks → get_or marks i false ≡ false) → AreBlobMarks n [] (set marks 16 true)
table_marked n marks le long bare = record {
  as_long = length-set marks 16 true ∙ long;
  marked = λ i lt. one i (omega (arith, lt, length-set marks 16 true));
  apart = none_apart n le;
}
  where
    one : (i : ℕ) → i < length marks → get_or (set marks 16 true) i false ≡ taken_with [] i
    one i lt = elim (cases_eq i 16) [
      | inl same ↦
          let low : 16 < length marks = omega (arith, lt, same) in
          let here : get_or (set marks 16 true) i false ≡ true = rw same (rw get_or-set_same refl) in
          here ∙ sym (ap (taken_with []) same ∙ taken_table [])
      | inr other ↦
          let stays : get_or (set marks 16 true) i false ≡ get_or marks i false = rw get_or-set_other refl in
          stays ∙ bare i lt ∙ sym (taken_none [] i other refl)
    ]

-- one step up the tree
pub above_step : (T : ℕ → Bool) (x : ℕ) → T (x / 2) ≡ false → NoneAbove T (x / 2) → NoneAbove T x
above_step T x here above zero = here
above_step T x here above (suc k) = ap T (sym (up_half (suc k) x)) ∙ above k

pub above_root : (T : ℕ → Bool) (x : ℕ) → x ≤ 1 → T 0 ≡ false → NoneAbove T x
above_root T x low none k = let e : up (suc k) x ≡ 0 = omega (arith, up_half k x, up_least k (x / 2), low) in ap T e ∙ none
