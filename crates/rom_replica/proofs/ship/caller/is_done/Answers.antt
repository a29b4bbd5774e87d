use Rattle.std.proofs.Common.{sym, ◌∙◌}
use Rattle.rom_replica.specs.Merging.{is_done}
use Rattle.rom_replica.proofs.Passing.{begins_here, not_done, not_update}
use Rattle.rom_replica.proofs.ship.caller.is_done.Goals as goal

pub returns-in-Update-Done : goal.returns-in-Update-Done
returns-in-Update-Done c =
    let e = c.in-Update-Done.ensures in
    let t = c.in-Update-Done.ensures' in
    sym (begins_here c.args.at c.args.script.now.items c.args.results.now.items e.asks t.line e.left t.left ∙ (λ i. is_done (e.line.1 i) (t.told.1 i)))

pub returns-in_default : goal.returns-in_default
returns-in_default c =
    let e = c.line.ensures in
    let t = c.at.ensures in
    sym (begins_here c.args.at c.args.script.now.items c.args.results.now.items e.asks t.line e.left t.left ∙ not_done e.asks t.line c.at.result t.told c.in_default.not-Done-1)

pub returns-in_default-2 : goal.returns-in_default-2
returns-in_default-2 c =
    let e = c.line.ensures in
    let t = c.at.ensures in
    sym (begins_here c.args.at c.args.script.now.items c.args.results.now.items e.asks t.line e.left t.left ∙ not_update e.asks t.line c.line.result e.line c.in_default.not-Update-0)
