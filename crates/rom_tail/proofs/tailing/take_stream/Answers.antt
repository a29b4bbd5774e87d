use Rattle.std.proofs.Common.{ℕ, List, subst, sym}
use Rattle.rom_tail.specs.Tailed.{HasGoneOn}
use Rattle.rom_tail.specs.declared.tally.Tally.{Tally}
use Rattle.rom_tail.proofs.Going.{gone_nowhere}
use Rattle.rom_tail.proofs.tailing.take_stream.Goals as goal

pub loop-init : goal.loop-init
loop-init g c =
    let source = g.S.Source.shown in
    let chaser = c.args.chaser.now in
    let stream = c.args.stream.now in
    subst (λ (z : List ℕ × Tally). HasGoneOn source chaser.count stream z.0 stream chaser z.1) (λ i. (sym c.new.ensures i, sym c.none.ensures i)) (gone_nowhere source stream chaser c.requires.none.0 c.requires.none.1)
