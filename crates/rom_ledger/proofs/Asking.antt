-- The lines that conditional updates have.
use Rattle.std.specs.Prelude.{◌≡◌, ℕ, ◌≤◌, List, [], ◌∷◌, codes, length, slice_index, true}
use Rattle.std.specs.List.{join_with_byte}
use Rattle.std.proofs.Common.{refl, arith, append_assoc}
use Rattle.rom_text.specs.Phrases.{NumbersFit, phrase_words}
use Rattle.rom_text.proofs.Reading.{is_word}
use Rattle.rom_script.proofs.Asking.{Phrased}
use Rattle.rom_ledger.specs.Asking.{conditional_phrase}
use Rattle.rom_ledger.specs.Lines.{ConditionalFits, conditional_line}
use Rattle.rom_ledger.specs.declared.call.Conditional.{Conditional}
use Rattle.rom_ledger.specs.declared.call.Conditional.TheVariants.{Inc, New, Cas, DeqIf}

-- the line of a conditional update is its name and its numbers with spaces between
pub joined : (c : Conditional) → conditional_line c ≡ join_with_byte 32 (phrase_words (conditional_phrase c).0 (conditional_phrase c).1)
joined (Inc k d) = refl
joined (New k v) = refl
joined (Cas k u v) = simp append_assoc refl
joined (DeqIf v) = refl

-- the name is a word
pub named : (c : Conditional) → is_word (conditional_phrase c).0 ≡ true
named (Inc k d) = refl
named (New k v) = refl
named (Cas k u v) = refl
named (DeqIf v) = refl

-- the update fits where its numbers do
pub numbers_fit : (c : Conditional) → ConditionalFits c → NumbersFit (conditional_phrase c).1
numbers_fit (Inc k d) fits = (fits.0, (fits.1, tt))
numbers_fit (New k v) fits = (fits.0, (fits.1, tt))
numbers_fit (Cas k u v) fits = (fits.0, (fits.1, (fits.2, tt)))
numbers_fit (DeqIf v) fits = (fits, tt)

pub conditional_fits : (c : Conditional) → NumbersFit (conditional_phrase c).1 → ConditionalFits c
conditional_fits (Inc k d) fit = (fit.0, fit.1.0)
conditional_fits (New k v) fit = (fit.0, fit.1.0)
conditional_fits (Cas k u v) fit = (fit.0, fit.1.0, fit.1.1.0)
conditional_fits (DeqIf v) fit = fit.0

-- it has at most three numbers
pub few_numbers : (c : Conditional) → length (conditional_phrase c).1 ≤ 3
few_numbers (Inc k d) = omega arith
few_numbers (New k v) = omega arith
few_numbers (Cas k u v) = omega arith
few_numbers (DeqIf v) = omega arith

-- conditional updates are commands of one kind
abbrev pub phrased_conditionals : Phrased Conditional
phrased_conditionals = record { phrase = conditional_phrase; line = conditional_line; Fits = ConditionalFits; joined = joined; named = named; numbers_fit = numbers_fit; fits = conditional_fits; short = few_numbers }

-- six bytes that are these
pub is_deq_if : (name : List ℕ) → length name ≡ 6 → slice_index name 0 ≡ 100 → slice_index name 1 ≡ 101 → slice_index name 2 ≡ 113 → slice_index name 3 ≡ 45 → slice_index name 4 ≡ 105 → slice_index name 5 ≡ 102 → name ≡ codes "deq-if"
is_deq_if (a ∷ b ∷ c ∷ d ∷ e ∷ f ∷ []) long is_d is_e is_q is_dash is_i is_f = λ i. is_d i ∷ is_e i ∷ is_q i ∷ is_dash i ∷ is_i i ∷ is_f i ∷ []
is_deq_if other long is_d is_e is_q is_dash is_i is_f = absurd (omega (arith, long))

-- a list of one number
pub one_number : (numbers : List ℕ) → length numbers ≡ 1 → numbers ≡ slice_index numbers 0 ∷ []
one_number (v ∷ []) one = refl
one_number other one = absurd (omega (arith, one))
