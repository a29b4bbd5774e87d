use Rattle.std.proofs.Common.{sym, subst}
use Rattle.rom_text.specs.Streams.{Prints}
use Rattle.rom_order_carry.proofs.carry.CarryOrderedCarryOrdered.print_sizes.Goals as goal

pub returns : goal.returns
returns g c = record {
  prints = λ text tells.
      let r = c.requires.region in
      let done = c.print_order_sizes in
      subst (λ t. Prints g.K.Sink.shown c.args.out.now done.new.out done.result t) (sym (tells r.0 r.1 r.2)) (done.ensures.prints r.0 r.1 r.2);
}
