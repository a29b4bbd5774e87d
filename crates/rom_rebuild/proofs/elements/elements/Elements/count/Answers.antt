use Rattle.std.proofs.Common.{arith}
use Rattle.rom_rebuild.proofs.Places.{length_elements}
use Rattle.rom_rebuild.proofs.elements.elements.Elements.count.Goals as goal

pub overflow_add-result-2 : goal.overflow_add-result-2
overflow_add-result-2 c = let e = c.args.self.now in omega (arith, length_elements e.queue.items e.members.items e.keys.items e.values.items e.paired, c.requires, c.len.ensures, c.len-2.ensures, c.len-3.ensures)

pub returns : goal.returns
returns c = let e = c.args.self.now in omega (arith, length_elements e.queue.items e.members.items e.keys.items e.values.items e.paired, c.len.ensures, c.len-2.ensures, c.len-3.ensures)
