use Rattle.std.proofs.Common.{ap, subst}
use Rattle.rom_script.specs.Stat.{stat_lines}
use Rattle.rom_text.specs.Streams.{Prints}
use Rattle.rom_script.proofs.stat.print_stat.Goals as goal

pub returns : goal.returns
returns g c = record {
  prints = λ s k held.
      let o = g.O.Sink.shown in
      let text = ap (λ z. stat_lines z.order z.count z.sizes z.free z.total) (c.of.ensures.sizes s k held) in
      subst (λ t. Prints o c.args.out.now c.print.new.out c.print.result t) text c.print.ensures.prints;
}
