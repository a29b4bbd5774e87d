-- Bytes that are put into words come back.
use Rattle.std.proofs.Common.{◌≡◌, ℕ, zero, suc, ◌+◌, ◌*◌, ◌/◌, ◌%◌, ◌^◌, ◌<◌, ◌≤◌, List, length, ◌∙◌, ap, arith}
use Rattle.std.specs.Prelude.{slice_index}
use Rattle.std.proofs.lemmas.Grind.{same_number_lists}
use Rattle.rom_blob_region.specs.Bytes.{bytes_at, word_from_bytes, words_from_bytes}
use Rattle.rom_blob_region.specs.Packed.{long_at, byte_of, packed_word_at}

-- a byte of a number of eight
module _ (a b c d e f g h : ℕ) (la : a < 256) (lb : b < 256) (lc : c < 256) (ld : d < 256) (le : e < 256) (lf : f < 256) (lg : g < 256) (lh : h < 256) where
  abbrev number : ℕ
  number = a + 256 * (b + 256 * (c + 256 * (d + 256 * (e + 256 * (f + 256 * (g + 256 * (h + 256 * 0)))))))

  byte_0 : number / 256 ^ 0 % 256 ≡ a
  byte_0 = omega (arith, la)

  byte_1 : number / 256 ^ 1 % 256 ≡ b
  byte_1 = omega (arith, la, lb)

  byte_2 : number / 256 ^ 2 % 256 ≡ c
  byte_2 = omega (arith, la, lb, lc)

  byte_3 : number / 256 ^ 3 % 256 ≡ d
  byte_3 = omega (arith, la, lb, lc, ld)

  byte_4 : number / 256 ^ 4 % 256 ≡ e
  byte_4 = omega (arith, la, lb, lc, ld, le)

  byte_5 : number / 256 ^ 5 % 256 ≡ f
  byte_5 = omega (arith, la, lb, lc, ld, le, lf)

  byte_6 : number / 256 ^ 6 % 256 ≡ g
  byte_6 = omega (arith, la, lb, lc, ld, le, lf, lg)

  byte_7 : number / 256 ^ 7 % 256 ≡ h
  byte_7 = omega (arith, la, lb, lc, ld, le, lf, lg, lh)

module _ (bytes : List ℕ) (small : (k : ℕ) → slice_index bytes k < 256) where
  abbrev at : ℕ → ℕ → ℕ
  at i r = slice_index bytes (8 * i + r)

  -- the bytes of a word
  abbrev eight : ℕ → ℕ
  eight i = at i 0 + 256 * (at i 1 + 256 * (at i 2 + 256 * (at i 3 + 256 * (at i 4 + 256 * (at i 5 + 256 * (at i 6 + 256 * (at i 7 + 256 * 0)))))))

  word_is : (i : ℕ) → word_from_bytes bytes i ≡ eight i
  word_is i =
      let p : (r k : ℕ) → k ≡ 8 * i + r → slice_index bytes k ≡ at i r = λ r k e. ap (λ j. slice_index bytes j) e in
      let zeroth = p 0 (8 * i) (omega arith) in
      let first = p 1 (8 * i + 1) (omega arith) in
      let second = p 2 (8 * i + 1 + 1) (omega arith) in
      let third = p 3 (8 * i + 1 + 1 + 1) (omega arith) in
      let fourth = p 4 (8 * i + 1 + 1 + 1 + 1) (omega arith) in
      let fifth = p 5 (8 * i + 1 + 1 + 1 + 1 + 1) (omega arith) in
      let sixth = p 6 (8 * i + 1 + 1 + 1 + 1 + 1 + 1) (omega arith) in
      let seventh = p 7 (8 * i + 1 + 1 + 1 + 1 + 1 + 1 + 1) (omega arith) in
      omega (arith, zeroth, first, second, third, fourth, fifth, sixth, seventh)

  digit : (i r : ℕ) → r < 8 → eight i / 256 ^ r % 256 ≡ at i r
  digit i zero lt = byte_0 (at i 0) (at i 1) (at i 2) (at i 3) (at i 4) (at i 5) (at i 6) (at i 7) (small (8 * i + 0)) (small (8 * i + 1)) (small (8 * i + 2)) (small (8 * i + 3)) (small (8 * i + 4)) (small (8 * i + 5)) (small (8 * i + 6)) (small (8 * i + 7))
  digit i (suc zero) lt = byte_1 (at i 0) (at i 1) (at i 2) (at i 3) (at i 4) (at i 5) (at i 6) (at i 7) (small (8 * i + 0)) (small (8 * i + 1)) (small (8 * i + 2)) (small (8 * i + 3)) (small (8 * i + 4)) (small (8 * i + 5)) (small (8 * i + 6)) (small (8 * i + 7))
  digit i (suc (suc zero)) lt = byte_2 (at i 0) (at i 1) (at i 2) (at i 3) (at i 4) (at i 5) (at i 6) (at i 7) (small (8 * i + 0)) (small (8 * i + 1)) (small (8 * i + 2)) (small (8 * i + 3)) (small (8 * i + 4)) (small (8 * i + 5)) (small (8 * i + 6)) (small (8 * i + 7))
  digit i (suc (suc (suc zero))) lt = byte_3 (at i 0) (at i 1) (at i 2) (at i 3) (at i 4) (at i 5) (at i 6) (at i 7) (small (8 * i + 0)) (small (8 * i + 1)) (small (8 * i + 2)) (small (8 * i + 3)) (small (8 * i + 4)) (small (8 * i + 5)) (small (8 * i + 6)) (small (8 * i + 7))
  digit i (suc (suc (suc (suc zero)))) lt = byte_4 (at i 0) (at i 1) (at i 2) (at i 3) (at i 4) (at i 5) (at i 6) (at i 7) (small (8 * i + 0)) (small (8 * i + 1)) (small (8 * i + 2)) (small (8 * i + 3)) (small (8 * i + 4)) (small (8 * i + 5)) (small (8 * i + 6)) (small (8 * i + 7))
  digit i (suc (suc (suc (suc (suc zero))))) lt = byte_5 (at i 0) (at i 1) (at i 2) (at i 3) (at i 4) (at i 5) (at i 6) (at i 7) (small (8 * i + 0)) (small (8 * i + 1)) (small (8 * i + 2)) (small (8 * i + 3)) (small (8 * i + 4)) (small (8 * i + 5)) (small (8 * i + 6)) (small (8 * i + 7))
  digit i (suc (suc (suc (suc (suc (suc zero)))))) lt = byte_6 (at i 0) (at i 1) (at i 2) (at i 3) (at i 4) (at i 5) (at i 6) (at i 7) (small (8 * i + 0)) (small (8 * i + 1)) (small (8 * i + 2)) (small (8 * i + 3)) (small (8 * i + 4)) (small (8 * i + 5)) (small (8 * i + 6)) (small (8 * i + 7))
  digit i (suc (suc (suc (suc (suc (suc (suc zero))))))) lt = byte_7 (at i 0) (at i 1) (at i 2) (at i 3) (at i 4) (at i 5) (at i 6) (at i 7) (small (8 * i + 0)) (small (8 * i + 1)) (small (8 * i + 2)) (small (8 * i + 3)) (small (8 * i + 4)) (small (8 * i + 5)) (small (8 * i + 6)) (small (8 * i + 7))
  digit i (suc (suc (suc (suc (suc (suc (suc (suc r)))))))) lt = absurd (omega (arith, lt))

  pub byte_back : (k : ℕ) → word_from_bytes bytes (k / 8) / 256 ^ (k % 8) % 256 ≡ slice_index bytes k
  byte_back k =
      let e : 8 * (k / 8) + k % 8 ≡ k = omega arith in
      ap (λ x. x / 256 ^ (k % 8) % 256) (word_is (k / 8)) ∙ digit (k / 8) (k % 8) (omega arith) ∙ ap (λ j. slice_index bytes j) e

  -- so many words hold the bytes
  pub bytes_back : (many : ℕ) → length bytes ≤ 8 * many → bytes_at (words_from_bytes bytes many) 0 (length bytes) ≡ bytes
  bytes_back many fit = same_number_lists (bytes_at (words_from_bytes bytes many) 0 (length bytes)) bytes (long_at (words_from_bytes bytes many) 0 (length bytes))
      (λ k lt.
      let inside : k < length bytes = omega (arith, lt, long_at (words_from_bytes bytes many) 0 (length bytes)) in
      let e : 0 + k / 8 ≡ k / 8 = omega arith in
      byte_of (words_from_bytes bytes many) 0 (length bytes) k inside ∙ ap (λ x. x / 256 ^ (k % 8) % 256) (ap (λ j. slice_index (words_from_bytes bytes many) j) e ∙ packed_word_at bytes many (k / 8) (omega (arith, inside, fit))) ∙ byte_back k)
