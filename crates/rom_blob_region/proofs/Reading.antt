-- Words that are read as bytes.
use Rattle.std.proofs.Common.{◌≡◌, ◌≢◌, ℕ, zero, suc, ◌+◌, ◌-◌, ◌*◌, ◌/◌, ◌%◌, ◌^◌, ◌<◌, ◌≤◌, List, [], ◌∷◌, ◌++◌, length, drop, replicate, length-append, Bool, true, false, refl, sym, ap, subst, ◌∙◌, Some, None, inl, inr, arith}
use Rattle.std.specs.Prelude.{slice_index, ◌==◌, ◌&&◌, nat_le, if◌then◌else◌}
use Rattle.std.proofs.lemmas.Bool.{eqb-true, cases_lt}
use Rattle.std.proofs.lemmas.Bool.Decides.{nat_tests}
use Rattle.std.proofs.lemmas.Grind.{same_number_lists}
use Rattle.std.proofs.lemmas.List.{get_or_past, get_or_append_left, get_or-append_right, get_or-drop, length-drop, length-replicate}
use Rattle.std.proofs.lemmas.Nat.{pow-add}
use Rattle.std.proofs.Math.Nat.{zero-div, div-eq_of_lt, div-div-eq-div-mul}
use Rattle.rom_blob_region.specs.Bytes.{bytes_at, bytes_in, same_words, words_for, word_from_bytes, words_from_bytes, EndsInZeros, IsChunk}
use Rattle.rom_blob_region.specs.Packed.{long_at, words_long, packed_word_at, word_is}
use Rattle.rom_blob_region.proofs.Carried.{from_zero, all_zeros, bytes_same, byte_small, loaded}
use Rattle.rom_blob_region.proofs.Packing.{byte_back, bytes_back}

pub same_self : (xs : List ℕ) → same_words xs xs ≡ true
same_self [] = refl
same_self (x ∷ xs) = let test : (x == x) ≡ true = grind (arith, nat_tests) in rw test (same_self xs)

both : (a b : Bool) → (a && b) ≡ true → (a ≡ true) × (b ≡ true)
both true b is = (refl, is)
both false b is = absurd (let never : false ≡ true = is in cc)

pub same_lists : (xs ys : List ℕ) → same_words xs ys ≡ true → xs ≡ ys
same_lists [] [] is = refl
same_lists [] (y ∷ ys) is = absurd (let never : false ≡ true = is in cc)
same_lists (x ∷ xs) [] is = absurd (let never : false ≡ true = is in cc)
same_lists (x ∷ xs) (y ∷ ys) is =
    let p = both (x == y) (same_words xs ys) is in
    let first : x ≡ y = eqb-true x y p.0 in
    let rest = same_lists xs ys p.1 in
    λ i. first i ∷ rest i

-- a number that has no bytes from one on has none from a later one on
higher_none : (x r k : ℕ) → r ≤ k → x / 256 ^ r ≡ 0 → x / 256 ^ k ≡ 0
higher_none x r k le none =
    let e : r + (k - r) ≡ k = omega (arith, le) in
    ap (λ m. x / 256 ^ m) (sym e) ∙ ap (λ p. x / p) (pow-add 256 r (k - r)) ∙ sym (div-div-eq-div-mul x (256 ^ r) (256 ^ (k - r))) ∙ ap (λ q. q / 256 ^ (k - r)) none ∙ zero-div (256 ^ (k - r))

-- one whose bytes are 0 from one on has none from there on
top_none : (m r x : ℕ) → x < 256 ^ (r + m) → ((j : ℕ) → r ≤ j → j < r + m → x / 256 ^ j % 256 ≡ 0) → x / 256 ^ r ≡ 0
top_none zero r x small none = let e : r + 0 ≡ r = omega arith in div-eq_of_lt (subst (λ k. x < 256 ^ k) e small)
top_none (suc m) r x small none =
    let e : r + suc m ≡ r + 1 + m = omega arith in
    let above = top_none m (r + 1) x (subst (λ k. x < 256 ^ k) e small) (λ j ge lt. none j (omega (arith, ge)) (omega (arith, lt))) in
    let q : x / 256 ^ r / 256 ≡ 0 = div-div-eq-div-mul x (256 ^ r) 256 ∙ ap (λ p. x / p) (sym (pow-add 256 r 1)) ∙ above in
    omega (arith, q, none r (omega arith) (omega arith))

-- the bytes behind the last one in its word
module _ (words : List ℕ) (len : ℕ) where
  pub ends_whole : len % 8 ≡ 0 → EndsInZeros words 0 len
  ends_whole even k ge lt = absurd (omega (arith, even, ge, lt))

  pub ends_none : slice_index words (len / 8) / 256 ^ (len % 8) ≡ 0 → EndsInZeros words 0 len
  ends_none none k ge lt =
      let same : 0 + k / 8 ≡ len / 8 = omega (arith, ge, lt) in
      let over : len % 8 ≤ k % 8 = omega (arith, ge, lt) in
      ap (λ j. slice_index words j / 256 ^ (k % 8) % 256) same ∙ ap (λ x. x % 256) (higher_none (slice_index words (len / 8)) (len % 8) (k % 8) over none)

  pub none_ends : slice_index words (len / 8) < 2 ^ 64 → len % 8 ≢ 0 → EndsInZeros words 0 len → slice_index words (len / 8) / 256 ^ (len % 8) ≡ 0
  none_ends small odd ends =
      let e : 8 ≡ len % 8 + (8 - len % 8) = omega arith in
      top_none (8 - len % 8) (len % 8) (slice_index words (len / 8)) (subst (λ m. slice_index words (len / 8) < 256 ^ m) e (omega (arith, small)))
      (λ j ge lt.
      let k = 8 * (len / 8) + j in
      let at : len / 8 ≡ 0 + k / 8 = omega (arith, lt) in
      let rest : j ≡ k % 8 = omega (arith, lt) in
      (λ i. slice_index words (at i) / 256 ^ (rest i) % 256) ∙ ends k (omega (arith, ge)) (omega (arith, lt, odd)))

-- words, and zeros behind them
abbrev pub filled : List ℕ → List ℕ
filled words = words ++ drop (length words) (replicate 32 0)

module _ (words : List ℕ) (fit : length words ≤ 32) where
  filled_long : length (filled words) ≡ 32
  filled_long = omega (arith, length-append words (drop (length words) (replicate 32 0)), length-drop {A = ℕ} (length words) (replicate 32 0), length-replicate {A = ℕ} 32 0, fit)

  filled_same : (j : ℕ) → j < length words → slice_index (filled words) j ≡ slice_index words j
  filled_same j lt = get_or_append_left words (drop (length words) (replicate 32 0)) 0 j lt

  filled_behind : (j : ℕ) → length words ≤ j → slice_index (filled words) j ≡ 0
  filled_behind j ge = get_or-append_right words (drop (length words) (replicate 32 0)) (length words) j 0 refl ge ∙ get_or-drop (length words) (replicate 32 0) (j - length words) 0 ∙ all_zeros 32 (length words + (j - length words))

  filled_small : ((i : ℕ) → slice_index words i < 2 ^ 64) → (i : ℕ) → slice_index (filled words) i < 2 ^ 64
  filled_small small i = elim (cases_lt i (length words)) [
    | inl lt ↦ omega (arith, filled_same i lt, small i)
    | inr ge ↦ omega (arith, filled_behind i ge)
  ]

module _ (words : List ℕ) (len : ℕ) (few : len ≤ 256) (whole : length words ≡ words_for len) (small : (i : ℕ) → slice_index words i < 2 ^ 64) (ends : EndsInZeros words 0 len) where
  fit : length words ≤ 32
  fit = omega (arith, whole, few)

  same : (j : ℕ) → j < words_for len → slice_index (filled words) j ≡ slice_index words j
  same j lt = filled_same words fit j (omega (arith, lt, whole))

  pub read_chunk : IsChunk len (filled words)
  read_chunk = loaded len 0 (filled words) words few (filled_long words fit) (filled_small words fit small) (λ j lt. same j lt ∙ sym (from_zero words j)) (λ j ge. filled_behind words fit j (omega (arith, ge, whole))) ends

  pub read_bytes : bytes_at (filled words) 0 len ≡ bytes_at words 0 len
  read_bytes = bytes_same (filled words) words 0 0 len (λ j lt. from_zero (filled words) j ∙ same j (omega (arith, lt)) ∙ sym (from_zero words j))

  pub read_words : bytes_in words len ≡ Some (bytes_at words 0 len)
  read_words =
      let bytes = bytes_at words 0 len in
      let are : words_from_bytes bytes (words_for len) ≡ words = same_number_lists (words_from_bytes bytes (words_for len)) words (words_long bytes (words_for len) ∙ sym whole)
      (λ k lt.
      let inside : k < words_for len = omega (arith, lt, words_long bytes (words_for len)) in
      packed_word_at bytes (words_for len) k inside ∙ ap (λ bs. word_from_bytes bs k) (sym read_bytes) ∙ word_is len (filled words) read_chunk k ∙ same k inside) in
      let test : same_words (words_from_bytes bytes (words_for len)) words ≡ true = ap (λ ws. same_words ws words) are ∙ same_self words in
      let most : nat_le len 256 ≡ true = grind (arith, nat_tests, few) in
      ap (λ t. if t && same_words (words_from_bytes bytes (words_for len)) words then Some bytes else None) most ∙ ap (λ t. if t then Some bytes else None) test

-- words that are those of their bytes
words_end : (words : List ℕ) (len : ℕ) → words_from_bytes (bytes_at words 0 len) (words_for len) ≡ words → (length words ≡ words_for len) × EndsInZeros words 0 len
words_end words len are =
    let bytes = bytes_at words 0 len in (
      ap length (sym are) ∙ words_long bytes (words_for len),
      λ k ge lt.
          let e : 0 + k / 8 ≡ k / 8 = omega arith in
          ap (λ j. slice_index words j / 256 ^ (k % 8) % 256) e ∙ ap (λ ws. slice_index ws (k / 8) / 256 ^ (k % 8) % 256) (sym are)
          ∙ ap (λ x. x / 256 ^ (k % 8) % 256) (packed_word_at bytes (words_for len) (k / 8) (omega (arith, lt))) ∙ byte_back bytes (byte_small words 0 len) k ∙ get_or_past bytes k 0 (omega (arith, ge, long_at words 0 len)),
    )

-- no bytes have these words
pub read_none : (words : List ℕ) (len : ℕ) → (length words ≡ words_for len → EndsInZeros words 0 len → ⊥) → bytes_in words len ≡ None
read_none words len never = go (nat_le len 256) (same_words (words_from_bytes (bytes_at words 0 len) (words_for len)) words) refl
  where
    go : (a b : Bool) → same_words (words_from_bytes (bytes_at words 0 len) (words_for len)) words ≡ b → (if a && b then Some (bytes_at words 0 len) else None) ≡ None
    go false b is = refl
    go true false is = refl
    go true true is = absurd (let p = words_end words len (same_lists (words_from_bytes (bytes_at words 0 len) (words_for len)) words is) in never p.0 p.1)

pub read_many : (words : List ℕ) (len : ℕ) → 256 < len → bytes_in words len ≡ None
read_many words len many = let test : nat_le len 256 ≡ false = grind (arith, nat_tests, many) in ap (λ t. if t && same_words (words_from_bytes (bytes_at words 0 len) (words_for len)) words then Some (bytes_at words 0 len) else None) test

-- bytes are read again from their words
pub bytes_again : (bytes : List ℕ) → length bytes ≤ 256 → ((k : ℕ) → slice_index bytes k < 256) → bytes_in (words_from_bytes bytes (words_for (length bytes))) (length bytes) ≡ Some bytes
bytes_again bytes few small =
    let len = length bytes in
    let words = words_from_bytes bytes (words_for len) in
    let back : bytes_at words 0 len ≡ bytes = bytes_back bytes small (words_for len) (omega arith) in
    let most : nat_le len 256 ≡ true = grind (arith, nat_tests, few) in
    let test : same_words (words_from_bytes (bytes_at words 0 len) (words_for len)) words ≡ true = ap (λ bs. same_words (words_from_bytes bs (words_for len)) words) back ∙ same_self words in
    ap (λ t. if t && same_words (words_from_bytes (bytes_at words 0 len) (words_for len)) words then Some (bytes_at words 0 len) else None) most ∙ ap (λ t. if t then Some (bytes_at words 0 len) else None) test ∙ ap Some back

-- and what is read has those words
pub bytes_only : (words : List ℕ) (len : ℕ) (bytes : List ℕ) → bytes_in words len ≡ Some bytes → (length bytes ≡ len) × (words_from_bytes bytes (words_for len) ≡ words)
bytes_only words len bytes is = go (nat_le len 256) (same_words (words_from_bytes (bytes_at words 0 len) (words_for len)) words) refl is
  where
    go : (a b : Bool) → same_words (words_from_bytes (bytes_at words 0 len) (words_for len)) words ≡ b → (if a && b then Some (bytes_at words 0 len) else None) ≡ Some bytes → (length bytes ≡ len) × (words_from_bytes bytes (words_for len) ≡ words)
    go false b same told = absurd (let never : None ≡ Some bytes = told in cc)
    go true false same told = absurd (let never : None ≡ Some bytes = told in cc)
    go true true same told =
        let made : bytes_at words 0 len ≡ bytes = cc in
        (ap length (sym made) ∙ long_at words 0 len, ap (λ bs. words_from_bytes bs (words_for len)) (sym made) ∙ same_lists (words_from_bytes (bytes_at words 0 len) (words_for len)) words same)
