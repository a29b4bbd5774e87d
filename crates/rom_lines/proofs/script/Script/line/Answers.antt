use Rattle.std.proofs.Common.{ap, refl, ◌∙◌, drop, take}
use Rattle.rom_lines.specs.Steps.{step_of_cell, StepCellFits}
use Rattle.rom_lines.specs.declared.script.Cell.TheVariants as cell
use Rattle.rom_lines.proofs.Runs.{at_image, at_holds, run_cut}
use Rattle.rom_lines.proofs.Steps.{line_at, update_line}
use Rattle.rom_lines.proofs.script.Script.line.Goals as goal

pub returns-in-Update : goal.returns-in-Update
returns-in-Update g c =
    let wc = g.O.Object.machine.words_call in
    let words = c.self.inside.words.items in
    let cells = c.self.inside.cells.items in
    let e = ap (λ v. v.items) c.self.view_is in
    let x = cell.Update c.in-Update.from c.in-Update.many in
    line_at wc c.args.self.now.items c.args.i (step_of_cell wc words x) _
    (at_image (step_of_cell wc words) cells c.args.self.now.items c.args.i c.index.result.now x e c.requires c.index.ensures c.in-Update.is)
    (update_line wc words c.in-Update.from c.in-Update.many _
    (run_cut c.deref.result.now c.in-Update.from c.in-Update.many ∙ ap (λ w. take c.in-Update.many (drop c.in-Update.from w)) c.deref.ensures.value)
    (at_holds (StepCellFits wc words) (step_of_cell wc words) cells c.args.self.now.items c.args.i c.index.result.now x c.self.invariant.0 e c.requires c.index.ensures c.in-Update.is))

pub returns-in-Ask : goal.returns-in-Ask
returns-in-Ask g c =
    let wc = g.O.Object.machine.words_call in
    let words = c.self.inside.words.items in
    let x = cell.Ask c.in-Ask.query in
    line_at wc c.args.self.now.items c.args.i (step_of_cell wc words x) _
    (at_image (step_of_cell wc words) c.self.inside.cells.items c.args.self.now.items c.args.i c.index.result.now x (ap (λ v. v.items) c.self.view_is) c.requires c.index.ensures c.in-Ask.is)
    refl

pub returns-in-Unread : goal.returns-in-Unread
returns-in-Unread g c =
    let wc = g.O.Object.machine.words_call in
    let words = c.self.inside.words.items in
    line_at wc c.args.self.now.items c.args.i (step_of_cell wc words cell.Unread) _
    (at_image (step_of_cell wc words) c.self.inside.cells.items c.args.self.now.items c.args.i c.index.result.now cell.Unread (ap (λ v. v.items) c.self.view_is) c.requires c.index.ensures c.in-Unread.is)
    refl
