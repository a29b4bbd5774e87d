use Rattle.std.proofs.Common.{List, ℕ, ◌+◌, ◌<◌, length, sym, ap, ◌∙◌, arith}
use Rattle.rom_combine.specs.declared.scanning.Posted.{Posted}
use Rattle.rom_combine.proofs.Wanting.{wanted_more}
use Rattle.rom_combine.proofs.finding.are_wanted.Goals as goal

pub loop-i-preserved : goal.loop-i-preserved
loop-i-preserved c =
    let caller : ℕ = c.loop-i.i + 1 in
    let low : c.loop-i.i < length c.args.found.now = omega (arith, c.loop-i-test.true, c.if-found-wanted.false) in
    wanted_more c.args.found.now c.args.wanted.now c.loop-i.i c.index-found-i.result c.index-wanted-i.result low c.loop-i-test.true c.loop-i.invariant
    (sym c.index-found-i.is ∙ (c.if-not-is_posted.ensures.is ∙ ap (λ (args : List ℕ). let p : Posted = record { caller = caller; args = args } in p) c.index-wanted-i.is))
