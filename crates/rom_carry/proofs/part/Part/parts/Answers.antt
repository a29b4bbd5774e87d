use Rattle.std.proofs.Common.{◌-◌, ◌≡◌, length, sym, ◌∙◌}
use Rattle.std.specs.Int.{div_ceil}
use Rattle.rom_carry.specs.Parts.{lines_in}
use Rattle.rom_carry.proofs.Lines.{between_length}
use Rattle.rom_carry.proofs.part.Part.parts.Goals as goal

pub returns : goal.returns
returns g c =
    let part = c.args.self.now in
    let many : part.to - part.from ≡ length (lines_in part) = sym (between_length part.from part.to (g.E.Written.lines part.elements.now) part.order part.within) in
    let same : c.PART.result ≡ g.E.Written.bounds.part = c.PART.ensures ∙ sym g.met.E.Written.part_is in
    c.div_ceil.ensures ∙ (λ i. div_ceil (many i) (same i))
