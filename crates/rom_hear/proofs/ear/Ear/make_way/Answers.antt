use Rattle.std.proofs.Common.{refl, ◌≤◌, length, arith, ap}
use Rattle.rom_hear.specs.Hearing.{waiting_in}
use Rattle.rom_hear.specs.declared.ear.TheConstants.{ROOM}
use Rattle.rom_hear.proofs.Hearing.{passed_over}
use Rattle.rom_hear.proofs.ear.Ear.make_way.Goals as goal

pub returns-then-waiting-ge-ROOM-clause-kept : goal.returns-then-waiting-ge-ROOM-clause-kept
returns-then-waiting-ge-ROOM-clause-kept c =
    let full : ROOM ≤ length (waiting_in c.args.self.now) = omega (arith, ap length c.waiting.ensures, c.if-waiting-ge-ROOM.true) in
    passed_over c.args.self.now _ c.requires.unbroken full refl refl refl
