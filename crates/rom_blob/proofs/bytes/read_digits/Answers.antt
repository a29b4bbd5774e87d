use Rattle.std.proofs.Common.{◌≢◌, ℕ, List, length, take, refl, sym, subst, arith, length-take-le}
use Rattle.std.specs.Prelude.{IfNone}
use Rattle.std.specs.List.{flat_map}
use Rattle.rom_blob_region.specs.Texts.{AreBytes, digits_of}
use Rattle.rom_blob.proofs.Digits.{all_read, not_more, not_one, not_none}
use Rattle.rom_blob_region.proofs.Carried.{all_zeros}
use Rattle.std.proofs.lemmas.Bool.{eqb-true, eqb-false}
use Rattle.rom_blob.proofs.bytes.read_digits.Goals as goal

pub loop-rest-init : goal.loop-rest-init
loop-rest-init c = record { few = omega arith; cells = refl; read = refl; small = λ k. omega (arith, all_zeros 256 k) }

pub returns-then-len-eq-MOST-clause-none : goal.returns-then-len-eq-MOST-clause-none
returns-then-len-eq-MOST-clause-none c bytes are same =
    let l = c.loop-rest in
    not_more c.args.digits.now (take l.len l.bytes) l.rest.now bytes are.1 l.invariant.read same (omega (arith, are.0, length-take-le l.len l.bytes (omega arith))) (omega arith)

pub returns-in_err-bytes-clause-none : goal.returns-in_err-bytes-clause-none
returns-in_err-bytes-clause-none c =
    let l = c.loop-rest in
    subst (λ o. IfNone o ((bytes : List ℕ) → AreBytes bytes → c.args.digits.now ≢ flat_map digits_of bytes)) (sym c.from_residual.ensures)
    (λ bytes are same. not_none c.args.digits.now (take l.len l.bytes) l.rest.now bytes are.1 l.invariant.read same (omega arith) c.in_err-bytes.ensures.none)

pub returns-then-is_empty-clause-some : goal.returns-then-is_empty-clause-some
returns-then-is_empty-clause-some c =
    let l = c.loop-rest in
    all_read c.args.digits.now l.bytes l.rest.now l.len c.of.result l.invariant.few l.invariant.cells l.invariant.small l.invariant.read (omega (arith, eqb-true (length l.rest.now) 0 (sym c.if-is_empty.ensures))) c.of.ensures

pub returns-else-is_empty-clause-none : goal.returns-else-is_empty-clause-none
returns-else-is_empty-clause-none c bytes are same =
    let l = c.loop-rest in
    let some : length l.rest.now ≢ 0 = eqb-false (length l.rest.now) 0 (sym c.if-is_empty.ensures) in
    not_one c.args.digits.now (take l.len l.bytes) l.rest.now bytes are.1 l.invariant.read same (omega arith)
