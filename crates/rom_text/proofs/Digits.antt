-- Numbers in digits, as lines have them.
use Rattle.std.specs.Prelude.{◌≡◌, ◌≢◌, ℕ, ◌+◌, ◌*◌, ◌^◌, ◌<◌, ◌≤◌, ◌%◌, List, length, take, decimal}
use Rattle.std.proofs.Common.{zero, suc, sym, subst, ap, ◌∙◌, arith, get_or}
use Rattle.std.specs.Char.{digit_value}
use Rattle.std.specs.Str.Parse.{AllDigits, digits_value}
use Rattle.std.proofs.lemmas.Int.Digits.{digits_more, digits_value_more}
use Rattle.std.proofs.lemmas.Str.{digit_value_digit}
use Rattle.std.proofs.lemmas.Str.Parse.{IsNumeralModel, numerals_by_value, tells_digits, digit_at, digits_value-take-le}
use Rattle.std.proofs.lemmas.Fmt.{decimal-digits_value, decimal_digit, digits_decimal, digits_value-decimal, first_decimal}
use Rattle.rom_text.specs.Phrases.{IsPlain}

-- a number's digits have no plus and no zero in front
pub decimal_is_plain : (bs : List ℕ) (n : ℕ) → n < 2 ^ 64 → bs ≡ decimal n → IsPlain bs
decimal_is_plain bs zero lt is = subst IsPlain (sym (is ∙ decimal_digit 0 (omega arith))) (omega arith, λ first. omega arith)
decimal_is_plain bs (suc n) lt is =
    let first = first_decimal (suc n) (omega arith) lt in
    subst IsPlain (sym is) (omega (arith, first), λ zero. absurd (omega (arith, first, zero)))

-- what a test of digits and their value is
pub numerals : IsNumeralModel (AllDigits 10) (digits_value 10)
numerals = numerals_by_value (AllDigits 10) tells_digits

-- how far a byte stands above `0`, where it goes round below it
abbrev above_zero : ℕ → ℕ
above_zero b = (b + 208) % 256

-- of a digit that is what it is worth
worth : (b : ℕ) → b < 256 → above_zero b ≤ 9 → digit_value b ≡ above_zero b
worth b small digit = omega (arith, digit_value_digit b (omega arith, omega arith))

-- the bytes before an index are digits that spell a number, and there is a byte there
module _ (bs : List ℕ) (i n : ℕ) (lt : i < length bs) (small : get_or bs i 0 < 256) (value : digits_value 10 (take i bs) ≡ n) where
  -- a digit more
  pub next_digits : AllDigits 10 (take i bs) → above_zero (get_or bs i 0) ≤ 9 → AllDigits 10 (take (i + 1) bs)
  next_digits digits digit = digits_more 10 bs i lt digits (omega (arith, worth (get_or bs i 0) small digit))

  pub next_value : above_zero (get_or bs i 0) ≤ 9 → digits_value 10 (take (i + 1) bs) ≡ n * 10 + above_zero (get_or bs i 0)
  next_value digit = omega (arith, digits_value_more 10 bs i lt, worth (get_or bs i 0) small digit, value)

  -- the bytes of no number have a byte that is no digit, or spell more than a number has
  pub no_digit : 9 < above_zero (get_or bs i 0) → (m : ℕ) → m < 2 ^ 64 → bs ≢ decimal m
  no_digit other m fits is =
      let digit = digit_at bs i (subst (AllDigits 10) (sym is) (digits_decimal numerals m fits)) lt in
      omega (arith, digit)

  pub too_large : above_zero (get_or bs i 0) ≤ 9 → 2 ^ 64 ≤ n * 10 + above_zero (get_or bs i 0) → (m : ℕ) → m < 2 ^ 64 → bs ≢ decimal m
  too_large digit large m fits is =
      omega (arith, ap (digits_value 10) is ∙ digits_value-decimal numerals m fits, digits_value-take-le 10 bs (i + 1) (omega arith), next_value digit)

-- plain digits are a number's
pub digits_read : (bs : List ℕ) (n : ℕ) → 0 < length bs → IsPlain bs → AllDigits 10 bs → digits_value 10 bs ≡ n → n < 2 ^ 64 → bs ≡ decimal n
digits_read bs n some plain digits value fits =
    sym (ap decimal (sym value) ∙ decimal-digits_value numerals bs digits some (λ first. omega (arith, some, plain.1 first)) (subst (λ m. m < 2 ^ 64) (sym value) fits))
