-- Numbers within bounds, as words spell them.
use Rattle.std.proofs.Common.{◌≡◌, ◌&&◌, cond, ℕ, ◌<◌, ◌≤◌, ◌^◌, List, length, Bool, true, false, Some, None, decimal, refl, sym, ap, ◌∙◌, arith}
use Rattle.std.specs.Prelude.{nat_le}
use Rattle.std.specs.Str.{bytes_eq}
use Rattle.std.specs.Str.Parse.{digits_value}
use Rattle.std.proofs.lemmas.Bool.{le-leb}
use Rattle.std.proofs.lemmas.Bool.Decides.{nat_tests}
use Rattle.std.proofs.lemmas.Slice.Eq.{bytes_eq-Decides}
use Rattle.std.proofs.lemmas.Fmt.{digits_value-decimal, length-decimal-le}
use Rattle.rom_text.specs.Phrases.{number_within}
use Rattle.rom_text.proofs.Digits.{numerals}

value_of : (word : List ℕ) (n : ℕ) → n < 2 ^ 64 → word ≡ decimal n → digits_value 10 word ≡ n
value_of word n small e = ap (digits_value 10) e ∙ digits_value-decimal numerals n small

-- the test of a number, and what it says
abbrev tested : ℕ → ℕ → List ℕ → ℕ → Bool
tested least most word n = bytes_eq word (decimal n) && nat_le least n && nat_le n most

by_test : (least most : ℕ) (word : List ℕ) (n : ℕ) (b : Bool) → digits_value 10 word ≡ n → tested least most word n ≡ b →
    number_within least most word ≡ cond b (Some n) None
by_test least most word n b v t = ap (λ n. cond (tested least most word n) (Some n) None) v ∙ ap (λ b. cond b (Some n) None) t

-- digits of a number within the bounds are read as it
pub number_found : (least most : ℕ) (word : List ℕ) (n : ℕ) → n < 2 ^ 64 → word ≡ decimal n → least ≤ n → n ≤ most → Some n ≡ number_within least most word
number_found least most word n small e l m =
    sym (by_test least most word n true (value_of word n small e) (rw ((bytes_eq-Decides word (decimal n)).1 e, le-leb least n l, le-leb n most m)))

-- and of one outside them as none
pub number_outside : (least most : ℕ) (word : List ℕ) (n : ℕ) → n < 2 ^ 64 → word ≡ decimal n → ((least ≤ n) × (n ≤ most) → ⊥) → None ≡ number_within least most word
number_outside least most word n small e out = go (tested least most word n) refl
  where
    go : (b : Bool) → tested least most word n ≡ b → None ≡ number_within least most word
    go false t = sym (by_test least most word n false (value_of word n small e) t)
    go true t = absurd (out (grind (arith, nat_tests)))

-- a number has at most twenty digits
pub number_short : (n : ℕ) → n < 2 ^ 64 → length (decimal n) ≤ 20
number_short n lt = length-decimal-le 20 n (omega arith) (omega (arith, lt)) lt
