use Rattle.std.proofs.Common.{sym, subst}
use Rattle.rom_text.specs.Streams.{Prints}
use Rattle.rom_rebuild.proofs.carry.CarryTrioCarryTrio.print_sizes.Goals as goal

pub returns : goal.returns
returns g c =
    let (s, k, held) = c.requires.region in
    record { prints = λ text sized. subst (λ t. Prints g.K.Sink.shown c.args.out.now c.print_stat.new.out c.print_stat.result t) (sym (sized s k held)) (c.print_stat.ensures.prints s k held) }
