use Rattle.std.proofs.Common.{◌+◌, ◌*◌, [], ◌∷◌, ◌++◌, ap, arith, length, length-append}
use Rattle.std.specs.List.{flat_map}
use Rattle.rom_rebuild.specs.Elements.{elements_in}
use Rattle.rom_rebuild.specs.Lines.{behind_text, element_line, span}
use Rattle.rom_rebuild.proofs.Groups.{printed_text}
use Rattle.rom_rebuild.proofs.group.group_len.Goals as goal

pub returns-clause-len : goal.returns-clause-len
returns-clause-len c =
    let es = elements_in c.args.elements.now in
    let one = c.front.result.now ++ element_line c.at.result in
    let two = flat_map behind_text (span (c.args.number * 8 + 1) c.min-to.result es) in
    let text = printed_text c.args.number c.min-to.result es c.front.result.now c.at.result c.requires.within (omega (arith, c.min-to.ensures, c.count.ensures)) c.front.ensures.is (c.at.ensures c.at.result) in
    omega (arith, ap length text, length-append (one ++ two) (10 ∷ []), length-append one two, length-append c.front.result.now (element_line c.at.result), c.element_len-first.ensures.len, c.behind_len-behind.ensures.len)
