use Rattle.std.proofs.Common.{arith, refl}
use Rattle.rom_model.proofs.Contents.{live_fits}
use Rattle.rom_rebuild.specs.Elements.{elements_in}
use Rattle.rom_rebuild.proofs.Caps.{cap_most}
use Rattle.rom_rebuild.proofs.Oks.{both_ok}
use Rattle.rom_rebuild.proofs.Reading.{lines_written}
use Rattle.rom_rebuild.proofs.Rebuilding.{elements_carry, elements_many}
use Rattle.rom_rebuild.proofs.carry.CarryTrioCarryTrio.elements.Goals as goal

pub returns-clause-carrying : goal.returns-clause-carrying
returns-clause-carrying c =
    let n = c.args.order in
    both_ok c.of.result (λ e are fit. λ s k held.
    let is = are s k held in
    let fits = live_fits c.requires.order.least held.1 in
    record {
      elements = elements_in e;
      are = is;
      lines_are = refl;
      room = fits;
      carry = elements_carry n s (elements_in e) is fit fits (omega (arith, elements_many s (elements_in e) is, fits, cap_most n c.requires.order.most));
    }) c.of.ensures.are c.of.ensures.fit

pub returns-clause-written : goal.returns-clause-written
returns-clause-written c =
    let n = c.args.order in
    let (s, k, held) = c.requires.region in
    both_ok c.of.result (λ e are fit.
    lines_written (elements_in e) fit (omega (arith, elements_many s (elements_in e) (are s k held), live_fits c.requires.order.least held.1, cap_most n c.requires.order.most))) c.of.ensures.are c.of.ensures.fit
