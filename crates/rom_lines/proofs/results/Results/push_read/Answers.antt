use Rattle.std.proofs.Common.{◌≡◌, ◌∙◌, ap, length}
use Rattle.rom_lines.proofs.Replies.{read_behind}
use Rattle.rom_lines.proofs.results.Results.push_read.Goals as goal

pub returns-clause-added : goal.returns-clause-added
returns-clause-added g c =
    let wr = g.O.Object.machine.words_reply in
    let at : c.len-at.result ≡ length c.self.inside.answers.items = c.len-at.ensures ∙ c.self.inside.answers.ok.0 in
    rw (← ap (λ r. r.items) c.self.view_is, c.push_reserved.ensures.items, c.push_reserved-2.ensures.items, at)
    (read_behind wr c.self.inside.words.items c.self.inside.answers.items c.args.answer c.self.inside.cells.items c.args.front c.self.invariant.0)
