use Rattle.std.proofs.Common.{◌∙◌, sym, rules}
use Rattle.rom_guard.specs.Working.{members_in}
use Rattle.rom_guard.specs.Wording.{within, read_part, read_some}
use Rattle.rom_guard.proofs.group.member_at.Goals as goal

pub slice_bounds-read_member-end : goal.slice_bounds-read_member-end
slice_bounds-read_member-end g c =
    let shown = g.P.Members.shown in
    let words = c.args.words.now in
    let most = within shown.member_words 4 shown.words_member g.met.P.Members.member_four (members_in shown words) words c.requires.group c.args.i c.requires.within in
    search (rules, most)

pub unwrap-requires : goal.unwrap-requires
unwrap-requires g c =
    let shown = g.P.Members.shown in
    let words = c.args.words.now in
    read_some shown.member_words 4 shown.words_member g.met.P.Members.member_four (members_in shown words) words c.requires.group g.met.P.Members.member_back c.args.i c.read_member.result c.requires.within c.read_member.ensures

pub returns : goal.returns
returns g c =
    let shown = g.P.Members.shown in
    let words = c.args.words.now in
    sym c.unwrap.ensures ∙ read_part shown.member_words 4 shown.words_member g.met.P.Members.member_four (members_in shown words) words c.requires.group g.met.P.Members.member_back c.args.i c.read_member.result c.requires.within c.read_member.ensures
