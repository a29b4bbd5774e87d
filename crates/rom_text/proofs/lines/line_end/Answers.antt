use Rattle.rom_text.proofs.Pieces.{line_at, rest_from}
use Rattle.rom_text.proofs.lines.line_end.Goals as goal

pub returns-clause-line : goal.returns-clause-line
returns-clause-line c =
    let len = c.len_before-len.ensures in
    line_at c.args.bytes.now _ _ c.args.start _ _ c.requires (rest_from c.args.bytes.now c.args.start) len.within len.before len.found c.min-next.ensures c.without_cr-line.ensures
