use Rattle.std.proofs.Common.{◌≡◌, ◌≢◌, ℕ, ◌<◌, ◌^◌, sym, subst, ap, ◌∙◌, arith, IfNone, length, decimal, get_or, take, take_all}
use Rattle.std.specs.Str.Parse.{AllDigits, digits_value}
use Rattle.std.proofs.lemmas.Bool.{eqb-true, eq-eqb}
use Rattle.std.proofs.lemmas.Fmt.{decimal_nonempty}
use Rattle.rom_text.proofs.Digits.{decimal_is_plain, digits_read, next_digits, next_value, no_digit, too_large}
use Rattle.rom_text.proofs.phrase.read_number.Goals as goal
use Rattle.rom_text.proofs.phrase.read_number.Goals.{then-is_empty-via-then-is_empty, then-is_empty-via-else-is_empty+then-not-is_plain}

pub returns-then-is_empty-clause-none : goal.returns-then-is_empty-clause-none
returns-then-is_empty-clause-none c = λ n lt is.
    elim c.then-is_empty.branch [
      | then-is_empty-via-then-is_empty w ↦ omega (arith, decimal_nonempty n lt, ap length is, eqb-true (length c.args.digits.now) 0 (sym w.if-is_empty.ensures))
      | then-is_empty-via-else-is_empty+then-not-is_plain w ↦ let plain = w.is_plain.ensures.1 (decimal_is_plain _ n lt is) in let other = w.if-not-is_plain.true in cc
    ]

pub returns-then-value-gt9-clause-none : goal.returns-then-value-gt9-clause-none
returns-then-value-gt9-clause-none c =
    no_digit c.args.digits.now c.loop-digit.digit-index c.loop-digit.number c.loop-digit-test.true (omega (arith, c.type_inv.digits c.loop-digit.digit-index)) c.loop-digit.invariant.value c.if-value-gt9.true

pub loop-digit-preserved : goal.loop-digit-preserved
loop-digit-preserved c =
    let bs = c.args.digits.now in
    let i = c.loop-digit.digit-index in
    let small : get_or bs i 0 < 256 = omega (arith, c.type_inv.digits i) in
    record {
      digits = next_digits bs i c.loop-digit.number c.loop-digit-test.true small c.loop-digit.invariant.value c.loop-digit.invariant.digits c.if-value-gt9.false;
      value = omega (arith, next_value bs i c.loop-digit.number c.loop-digit-test.true small c.loop-digit.invariant.value c.if-value-gt9.false, c.in_ok-checked_mul.ensures, c.in_ok-number.ensures, c.from.ensures);
      fits = omega (arith, c.in_ok-number.ensures);
    }

pub returns-in_err-checked_mul-clause-none : goal.returns-in_err-checked_mul-clause-none
returns-in_err-checked_mul-clause-none c =
    let bs = c.args.digits.now in
    let i = c.loop-digit.digit-index in
    let small : get_or bs i 0 < 256 = omega (arith, c.type_inv.digits i) in
    let none = too_large bs i c.loop-digit.number c.loop-digit-test.true small c.loop-digit.invariant.value c.if-value-gt9.false (omega (arith, c.in_err-checked_mul.ensures)) in
    subst (λ o. IfNone o ((n : ℕ) → n < 2 ^ 64 → c.args.digits.now ≢ decimal n)) (sym c.from_residual.ensures) none

pub returns-in_err-number-clause-none : goal.returns-in_err-number-clause-none
returns-in_err-number-clause-none c =
    let bs = c.args.digits.now in
    let i = c.loop-digit.digit-index in
    let small : get_or bs i 0 < 256 = omega (arith, c.type_inv.digits i) in
    let none = too_large bs i c.loop-digit.number c.loop-digit-test.true small c.loop-digit.invariant.value c.if-value-gt9.false (omega (arith, c.in_ok-checked_mul.ensures, c.from.ensures, c.in_err-number.ensures)) in
    subst (λ o. IfNone o ((n : ℕ) → n < 2 ^ 64 → c.args.digits.now ≢ decimal n)) (sym c.from_residual-in_err-number.ensures) none

pub returns-clause-found : goal.returns-clause-found
returns-clause-found c =
    let bs = c.args.digits.now in
    let some : length bs ≢ 0 = λ none. let empty = eq-eqb (length bs) 0 none in let other = c.if-is_empty.ensures in cc in
    let all : take c.loop-digit.digit-index bs ≡ bs = take_all c.loop-digit.digit-index bs c.loop-digit-test.false in
    digits_read bs c.loop-digit.number (omega (arith, some)) (c.is_plain.ensures.0 c.if-not-is_plain.false)
    (subst (AllDigits 10) all c.loop-digit.invariant.digits) (ap (digits_value 10) (sym all) ∙ c.loop-digit.invariant.value) c.loop-digit.invariant.fits
