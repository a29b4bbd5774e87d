use Rattle.std.proofs.Common.{refl}
use Rattle.rom_replica.proofs.Passing.{never_undone, place_here}
use Rattle.rom_replica.proofs.ship.caller.Caller.place.Goals as goal

pub returns-in-Done : goal.returns-in-Done
returns-in-Done c =
    let own = c.args.self.now in
    let t = c.in-Done.ensures in
    place_here own.at own.script.now.items own.results.now.items t.line t.told.0 c.in-Done.place (c.if-is_over.ensures.not_over refl).0 t.left t.told.1 own.begins

pub returns-in_default : goal.returns-in_default
returns-in_default c =
    let own = c.args.self.now in
    let t = c.at.ensures in
    absurd (never_undone own.at own.script.now.items own.results.now.items t.line c.at.result (c.if-is_over.ensures.not_over refl).0 t.left t.told c.in_default.not-Done own.begins)
