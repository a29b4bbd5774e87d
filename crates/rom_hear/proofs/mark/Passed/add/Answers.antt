use Rattle.std.proofs.Common.{refl, ap, ◌∙◌, arith, length, length-append}
use Rattle.std.proofs.lemmas.Slice.{pushed}
use Rattle.rom_hear.specs.Marks.{bytes_in, log_of}
use Rattle.rom_hear.proofs.Marks.{bytes_in-append, log_of-append}
use Rattle.rom_hear.proofs.mark.Passed.add.Goals as goal

pub returns-clause-marked : goal.returns-clause-marked
returns-clause-marked g c =
    let bytes = pushed c.args.bytes.now refl c.unwrap.ensures c.extend_from_slice.ensures.items in
    omega (arith, ap bytes_in c.push_reserved.ensures.items, bytes_in-append c.args.self.now.marks.items c.args.mark, ap length bytes, length-append c.args.self.now.bytes.items c.args.bytes.now, c.requires.marked, c.requires.count)

pub returns-clause-log : goal.returns-clause-log
returns-clause-log g c =
    let bytes = pushed c.args.bytes.now refl c.unwrap.ensures c.extend_from_slice.ensures.items in
    ap (λ marks. log_of marks c.extend_from_slice.new.self.items) c.push_reserved.ensures.items
    ∙ ap (log_of _) bytes
    ∙ log_of-append c.args.self.now.marks.items c.args.self.now.bytes.items c.args.bytes.now c.args.mark c.requires.marked c.requires.count
