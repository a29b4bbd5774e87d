use Rattle.std.proofs.Common.{map, sym, ◌∙◌, subst}
use Rattle.std.specs.List.{AllByRecursion}
use Rattle.rom_model.specs.VecSpace.{words_of_space}
use Rattle.rom_carry.specs.Carried.{AreWritten}
use Rattle.rom_order_carry.specs.Carries.{CarriesIndex}
use Rattle.rom_order_carry.specs.Entries.{EntryFits, ORDER_BOUNDS, entry_line}
use Rattle.rom_order_carry.proofs.Rebuilding.{index_carried, lines_written}
use Rattle.rom_order_carry.proofs.carry.CarryOrderedCarryOrdered.elements.Goals as goal

pub returns-clause-carrying : goal.returns-clause-carrying
returns-clause-carrying c s k held =
    let n = c.args.order in
    let are = c.in_ok-entries_of.ensures.entries s k held in
    let fit = subst (λ es. AllByRecursion EntryFits es) are c.in_ok-entries_of.ensures.fit in
    subst (λ es. CarriesIndex n s (map entry_line es)) (sym (c.of.ensures ∙ are)) (index_carried n (words_of_space c.args.space.now) s k c.requires.order fit held)

pub returns-clause-written : goal.returns-clause-written
returns-clause-written c =
    let taken = c.in_ok-entries_of in
    subst (λ es. AreWritten ORDER_BOUNDS (map entry_line es)) (sym c.of.ensures) (lines_written c.args.order taken.field-0.items c.requires.order taken.ensures.fit taken.ensures.few)
