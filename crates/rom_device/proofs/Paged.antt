-- The words of a page of zeros, and of one in which the bytes of a word were replaced.
use Rattle.std.proofs.Common.{◌≡◌, ◌≢◌, inl, inr, ℕ, zero, suc, ◌+◌, ◌-◌, ◌*◌, ◌<◌, ◌≤◌, ◌^◌, List, [], ◌++◌, length, take, drop, replicate, slice_index, arith, refl, sym, ap, ◌∙◌}
use Rattle.std.proofs.lemmas.Bool.{cases_lt}
use Rattle.std.proofs.lemmas.List.{append-nil, drop-append-le, drop-drop, drop-replicate, length-drop, length-take-le, take-append-drop, take_all}
use Rattle.std.proofs.Math.ListN.{drop_of_length-le}
use Rattle.std.proofs.Math.Seq.{drop-append-add, drop-append_seam}
use borrow.Rule.Slice.PartMut.{mid_of, post_of, put_mid}
use Rattle.byteorder.specs.Endian.{little_bytes, little_from, little_number}
use Rattle.byteorder.specs.Numbers.{length-bytes_low_first, little_from-append, little_number-reads_back}

zero_byte : (n i : ℕ) → slice_index (replicate n 0) i ≡ 0
zero_byte zero i = refl
zero_byte (suc n) zero = refl
zero_byte (suc n) (suc i) = zero_byte n i

zero_bytes : (m i n : ℕ) → little_from i m (replicate n 0) ≡ 0
zero_bytes zero i n = refl
zero_bytes (suc m) i n = omega (arith, zero_byte n i, zero_bytes m (suc i) n)

-- each word among zeros is 0
pub zero_word : (b n : ℕ) → little_number 8 (drop b (replicate n 0)) ≡ 0
zero_word b n = ap (little_number 8) (drop-replicate b n 0) ∙ zero_bytes 8 0 (n - b)

-- a word is that of the eight bytes at its place, whatever comes behind them
pub number_front : (b : ℕ) (xs ys : List ℕ) → b + 8 ≤ length xs → little_number 8 (drop b (xs ++ ys)) ≡ little_number 8 (drop b xs)
number_front b xs ys fits =
    ap (little_number 8) (drop-append-le b xs ys (omega (arith, fits)))
    ∙ little_from-append 8 (drop b xs) ys (omega (arith, fits, length-drop b xs))

module _ (old : List ℕ) (at rest word : ℕ) (whole : at + rest ≡ length old) (room : 8 ≤ rest) where
  abbrev part : List ℕ
  part = little_bytes 8 word ++ drop 8 (mid_of at rest old)

  front_long : length (take at old) ≡ at
  front_long = length-take-le at old (omega (arith, whole))

  -- nothing is left behind the part
  none_behind : post_of at rest old ≡ []
  none_behind = drop_of_length-le (drop at old) (omega (arith, whole, length-drop at old))

  part_alone : part ++ post_of at rest old ≡ part
  part_alone = ap (λ (zs : List ℕ). part ++ zs) none_behind ∙ append-nil part

  pub word_here : word < 2 ^ 64 → little_number 8 (drop at (put_mid at rest old part)) ≡ word
  word_here small =
      let from : drop at (put_mid at rest old part) ≡ part =
      ap (λ (n : ℕ). drop n (put_mid at rest old part)) (sym front_long) ∙ drop-append_seam (take at old) (part ++ post_of at rest old) ∙ part_alone in
      ap (little_number 8) from ∙ little_number-reads_back 8 word (drop 8 (mid_of at rest old)) small

  pub word_before : (b : ℕ) → b + 8 ≤ at → little_number 8 (drop b (put_mid at rest old part)) ≡ little_number 8 (drop b old)
  word_before b before =
      let fits : b + 8 ≤ length (take at old) = omega (arith, before, front_long) in
      number_front b (take at old) (part ++ post_of at rest old) fits
      ∙ sym (number_front b (take at old) (drop at old) fits)
      ∙ ap (λ (zs : List ℕ). little_number 8 (drop b zs)) (take-append-drop at old)

  drop_behind : drop (at + 8) (put_mid at rest old part) ≡ drop (at + 8) old
  drop_behind =
      let seam : drop 8 part ≡ drop 8 (mid_of at rest old) =
      ap (λ (n : ℕ). drop n part) (sym (length-bytes_low_first 0 8 word)) ∙ drop-append_seam (little_bytes 8 word) (drop 8 (mid_of at rest old)) in
      let mid : mid_of at rest old ≡ drop at old = take_all rest (drop at old) (omega (arith, whole, length-drop at old)) in
      ap (λ (n : ℕ). drop (n + 8) (put_mid at rest old part)) (sym front_long)
      ∙ drop-append-add (take at old) (part ++ post_of at rest old) 8
      ∙ ap (drop 8) part_alone ∙ seam ∙ ap (drop 8) mid ∙ drop-drop 8 at old

  pub word_behind : (b : ℕ) → at + 8 ≤ b → little_number 8 (drop b (put_mid at rest old part)) ≡ little_number 8 (drop b old)
  word_behind b behind =
      let there : at + 8 + (b - (at + 8)) ≡ b = omega (arith, behind) in
      let same : drop b (put_mid at rest old part) ≡ drop b old =
      ap (λ (n : ℕ). drop n (put_mid at rest old part)) (sym there)
      ∙ sym (drop-drop (b - (at + 8)) (at + 8) (put_mid at rest old part))
      ∙ ap (drop (b - (at + 8))) drop_behind
      ∙ drop-drop (b - (at + 8)) (at + 8) old
      ∙ ap (λ (n : ℕ). drop n old) there in
      ap (little_number 8) same

  pub word_other : (index k : ℕ) → at ≡ 8 * index → k ≢ index → little_number 8 (drop (8 * k) (put_mid at rest old part)) ≡ little_number 8 (drop (8 * k) old)
  word_other index k is other = elim (cases_lt k index) [
    | inl less ↦ word_before (8 * k) (omega (arith, is, less))
    | inr not_less ↦ word_behind (8 * k) (omega (arith, is, not_less, other))
  ]
