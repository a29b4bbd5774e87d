use Rattle.std.proofs.Common.{◌∙◌, ap, sym, arith, length}
use Rattle.std.specs.Int.{div_ceil}
use Rattle.rom_rebuild.specs.Elements.{elements_in}
use Rattle.rom_rebuild.proofs.Groups.{few_elements, lines_many, needed_is}
use Rattle.rom_rebuild.proofs.written.ElementsWritten.len.Goals as goal

pub count-requires : goal.count-requires
count-requires c = omega (arith, few_elements (elements_in c.args.self.now) c.requires.few)

pub returns : goal.returns
returns c = c.div_ceil.ensures ∙ ap (λ n. div_ceil n 8) c.count.ensures ∙ needed_is (length (elements_in c.args.self.now)) ∙ sym (lines_many (elements_in c.args.self.now))
