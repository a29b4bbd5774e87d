use Rattle.std.proofs.Common.{◌∙◌, ap, sym, subst}
use Rattle.rom_rebuild.specs.Measures.{gauges_text}
use Rattle.rom_text.specs.Streams.{Prints}
use Rattle.rom_rebuild.proofs.carry.CarryTrioCarryTrio.print_measures.Goals as goal

pub returns : goal.returns
returns g c =
    let (s, k, held) = c.requires.region in
    record {
      prints = λ text measured.
          subst (λ t. Prints g.K.Sink.shown c.args.out.now c.print.new.out c.print.result t) (ap gauges_text (c.of.ensures.measures s k held) ∙ sym (measured s k held)) c.print.ensures.prints;
    }
