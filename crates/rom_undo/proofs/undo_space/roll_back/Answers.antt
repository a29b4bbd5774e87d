use Rattle.std.proofs.Common.{◌≡◌, ◌-◌, length, drop, ap, ◌∙◌, arith}
use Rattle.rom_undo.proofs.Noting.{length_rolled}
use Rattle.rom_undo.proofs.undo_space.roll_back.Goals as goal

pub store-requires-clause-within : goal.store-requires-clause-within
store-requires-clause-within g c =
    let words = c.args.words.now in
    let as_long = ap length c.loop-i.invariant.image ∙ length_rolled (drop (length words - c.loop-i.i) words) (g.M.Look.shown.image c.args.space.now) in
    omega (arith, as_long, c.requires.within (length words - 1 - c.loop-i.i) (record { at = 0; word = 0 }) (omega (arith, c.loop-i-test.true)))
