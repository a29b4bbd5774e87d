use Rattle.std.proofs.Common.{◌∙◌, ◌-◌, sym, arith}
use Rattle.rom_rebuild.specs.declared.elements.element.Element.TheVariants.{Pair}
use Rattle.rom_rebuild.proofs.Places.{length_elements, at_key}
use Rattle.rom_rebuild.proofs.elements.elements.Elements.at.Goals as goal

pub index-requires-2 : goal.index-requires-2
index-requires-2 c = let e = c.args.self.now in omega (arith, length_elements e.queue.items e.members.items e.keys.items e.values.items e.paired, c.requires, c.len-2.ensures, c.len-4.ensures)

pub index-requires-3 : goal.index-requires-3
index-requires-3 c = let e = c.args.self.now in omega (arith, length_elements e.queue.items e.members.items e.keys.items e.values.items e.paired, c.requires, c.len-2.ensures, c.len-4.ensures, e.paired)

pub returns : goal.returns
returns c d =
    let e = c.args.self.now in
    at_key e.queue.items e.members.items e.keys.items e.values.items e.paired c.args.i (c.args.i - c.len-2.result - c.len-4.result) c.index-2.result.now c.index-3.result.now d (omega arith) (omega arith) (omega (arith, length_elements e.queue.items e.members.items e.keys.items e.values.items e.paired, c.requires, c.len-2.ensures, c.len-4.ensures))
    ∙ (λ i. Pair (sym c.index-2.ensures i) (sym c.index-3.ensures i))
