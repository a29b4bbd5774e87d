use Rattle.std.proofs.Common.{◌∙◌, ◌++◌, ◌+◌, ◌<◌, length, take, codes, ap, sym, arith}
use Rattle.std.proofs.lemmas.List.{length-take-le}
use Rattle.rom_text.proofs.Pieces.{rest_from}
use Rattle.rom_script.proofs.Separators.{parts_at, stands_between}
use Rattle.rom_script.proofs.group_line.split_first.Goals as goal

pub returns-in-Some-clause-parts : goal.returns-in-Some-clause-parts
returns-in-Some-clause-parts c =
    let text = c.args.text.now in
    let at = c.in-Some.at in
    parts_at text at c.in-Some.ensures.1 ∙ ap (λ t. take at text ++ (codes " ; " ++ t)) (sym (rest_from text (at + 3)))

pub returns-in-Some-clause-first : goal.returns-in-Some-clause-first
returns-in-Some-clause-first c = λ front back is.
    let text = c.args.text.now in
    let at = c.in-Some.at in
    let never : length front < at → ⊥ = λ earlier. c.in-Some.ensures.0.before (length front) (omega arith) earlier (stands_between text front back is) in
    omega (arith, never, length-take-le at text (omega (arith, c.in-Some.ensures.1.fits)))

pub returns-in-None-clause-first : goal.returns-in-None-clause-first
returns-in-None-clause-first c = λ front back is.
    let text = c.args.text.now in
    let found = stands_between text front back is in
    absurd (c.in-None.ensures (length front) (omega arith) (omega (arith, found.fits)) found)
