use Rattle.std.proofs.Common.{◌≡◌, ◌/◌, ◌<◌, ◌∙◌, sym, true, false, length, arith}
use Rattle.rom_block.specs.Walk.{NoneAbove}
use Rattle.rom_block.proofs.Above.{path_step}
use Rattle.rom_blob_region.proofs.Marking.{above_step, above_root}
use Rattle.rom_blob_region.proofs.inspect.follow.is_marked_above.Goals as goal

pub returns-then-marks-above : goal.returns-then-marks-above
returns-then-marks-above c taken is none above =
    let a = c.loop-above.above in
    let low : a / 2 < length c.args.marks.now = omega (arith, c.loop-above.invariant.0, c.requires.node) in
    let over : NoneAbove taken a = (c.loop-above.invariant.1 taken is).1 above in
    let gone : taken (a / 2) ≡ false = over 0 in
    let there : taken (a / 2) ≡ true = sym (is (a / 2) low) ∙ c.if-marks-above.true in
    cc

pub loop-above-preserved : goal.loop-above-preserved
loop-above-preserved c = (
  omega (arith, c.loop-above.invariant.0),
  λ taken is.
      let a = c.loop-above.above in
      let low : a / 2 < length c.args.marks.now = omega (arith, c.loop-above.invariant.0, c.requires.node) in
      let gone : taken (a / 2) ≡ false = sym (is (a / 2) low) ∙ c.if-marks-above.false in
      let same = c.loop-above.invariant.1 taken is in
      ((λ over. same.0 (above_step taken a gone over)), (λ over. path_step a taken (same.1 over))),
)

pub returns : goal.returns
returns c taken is none = (c.loop-above.invariant.1 taken is).0 (above_root taken c.loop-above.above (omega (arith, c.loop-above-test.false)) none)
