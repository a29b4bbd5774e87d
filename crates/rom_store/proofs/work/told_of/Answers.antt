use Rattle.std.proofs.Common.{ap, ◌∙◌}
use Rattle.rom_store.proofs.Taking.{done_taken}
use Rattle.rom_store.proofs.work.told_of.Goals as goal

pub returns-in-Done : goal.returns-in-Done
returns-in-Done g c =
    let m = g.O.Object.machine in
    let found = done_taken m.words_reply c.args.taken.now c.in-Update.became c.in-Done.place c.args.words.now c.in-Update.is c.in-Done.is c.requires in
    (found.0, found.1, ap m.words_reply c.as_slice.ensures.words ∙ found.2, c.as_slice.ensures.within)
