use Rattle.std.proofs.Common.{ap, refl, ◌∙◌, drop, take}
use Rattle.rom_lines.specs.Replies.{result_of, ReplyCellFits}
use Rattle.rom_lines.specs.declared.results.Cell.TheVariants as cell
use Rattle.rom_lines.proofs.Runs.{at_image, at_holds, run_cut}
use Rattle.rom_lines.proofs.Replies.{done_result, read_result, told_at}
use Rattle.rom_lines.proofs.results.Results.at.Goals as goal

pub returns-in-Unread : goal.returns-in-Unread
returns-in-Unread g c =
    let wr = g.O.Object.machine.words_reply in
    let words = c.self.inside.words.items in
    let answers = c.self.inside.answers.items in
    told_at wr c.args.self.now.items c.args.i (result_of wr words answers cell.Unread) _
    (at_image (result_of wr words answers) c.self.inside.cells.items c.args.self.now.items c.args.i c.index.result.now cell.Unread (ap (λ v. v.items) c.self.view_is) c.requires c.index.ensures c.in-Unread.is)
    refl

pub returns-in-Done : goal.returns-in-Done
returns-in-Done g c =
    let wr = g.O.Object.machine.words_reply in
    let words = c.self.inside.words.items in
    let answers = c.self.inside.answers.items in
    let cells = c.self.inside.cells.items in
    let e = ap (λ v. v.items) c.self.view_is in
    let x = cell.Done c.in-Done.place c.in-Done.from c.in-Done.many in
    told_at wr c.args.self.now.items c.args.i (result_of wr words answers x) _
    (at_image (result_of wr words answers) cells c.args.self.now.items c.args.i c.index.result.now x e c.requires c.index.ensures c.in-Done.is)
    (done_result wr words c.in-Done.place c.in-Done.from c.in-Done.many _
    (run_cut c.deref.result.now c.in-Done.from c.in-Done.many ∙ ap (λ w. take c.in-Done.many (drop c.in-Done.from w)) c.deref.ensures.value)
    (at_holds (ReplyCellFits wr words answers) (result_of wr words answers) cells c.args.self.now.items c.args.i c.index.result.now x c.self.invariant.0 e c.requires c.index.ensures c.in-Done.is))

pub returns-in-Undone : goal.returns-in-Undone
returns-in-Undone g c =
    let wr = g.O.Object.machine.words_reply in
    let words = c.self.inside.words.items in
    let answers = c.self.inside.answers.items in
    let x = cell.Undone c.in-Undone.why in
    told_at wr c.args.self.now.items c.args.i (result_of wr words answers x) _
    (at_image (result_of wr words answers) c.self.inside.cells.items c.args.self.now.items c.args.i c.index.result.now x (ap (λ v. v.items) c.self.view_is) c.requires c.index.ensures c.in-Undone.is)
    refl

pub returns-in-Read : goal.returns-in-Read
returns-in-Read g c =
    let wr = g.O.Object.machine.words_reply in
    let words = c.self.inside.words.items in
    let answers = c.self.inside.answers.items in
    let cells = c.self.inside.cells.items in
    let e = ap (λ v. v.items) c.self.view_is in
    let x = cell.Read c.in-Read.front c.in-Read.at in
    told_at wr c.args.self.now.items c.args.i (result_of wr words answers x) _
    (at_image (result_of wr words answers) cells c.args.self.now.items c.args.i c.index.result.now x e c.requires c.index.ensures c.in-Read.is)
    (read_result wr answers c.in-Read.front c.in-Read.at c.index-in-Read.result.now
    (at_holds (ReplyCellFits wr words answers) (result_of wr words answers) cells c.args.self.now.items c.args.i c.index.result.now x c.self.invariant.0 e c.requires c.index.ensures c.in-Read.is)
    c.index-in-Read.ensures)
