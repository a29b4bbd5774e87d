use Rattle.std.proofs.Common.{◌∙◌, sym, rules}
use Rattle.rom_guard.specs.Working.{told_in}
use Rattle.rom_guard.specs.Wording.{within, read_part, read_some}
use Rattle.rom_guard.proofs.group.told_at.Goals as goal

pub slice_bounds-read_told-end : goal.slice_bounds-read_told-end
slice_bounds-read_told-end g c =
    let shown = g.P.Members.shown in
    let words = c.args.words.now in
    let most = within shown.told_words 2 shown.words_told g.met.P.Members.told_two (told_in shown words) words c.requires.told c.args.i c.requires.within in
    search (rules, most)

pub unwrap-requires : goal.unwrap-requires
unwrap-requires g c =
    let shown = g.P.Members.shown in
    let words = c.args.words.now in
    read_some shown.told_words 2 shown.words_told g.met.P.Members.told_two (told_in shown words) words c.requires.told g.met.P.Members.told_back c.args.i c.read_told.result c.requires.within c.read_told.ensures

pub returns : goal.returns
returns g c =
    let shown = g.P.Members.shown in
    let words = c.args.words.now in
    sym c.unwrap.ensures ∙ read_part shown.told_words 2 shown.words_told g.met.P.Members.told_two (told_in shown words) words c.requires.told g.met.P.Members.told_back c.args.i c.read_told.result c.requires.within c.read_told.ensures
