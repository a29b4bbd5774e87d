use Rattle.std.proofs.Common.{sym, subst}
use Rattle.rom_run.specs.Statuses.{exit_number}
use Rattle.rom_dump.specs.Shown.{IsCommandAnswered}
use Rattle.rom_dump.specs.Words.{Script}
use Rattle.rom_dump.proofs.script.show_script.Goals as goal

pub returns-in-Some-clause-answered : goal.returns-in-Some-clause-answered
returns-in-Some-clause-answered g c file =
    subst (λ from. IsCommandAnswered g.D.Device.shown g.K.Sink.shown g.O.Object.Contents g.O.Object.Rejects (record { kind = g.O.Object.KIND; Carrying = g.C.Carry.Carrying; Sized = g.C.Carry.Sized; Measured = g.C.Carry.Measured; bounds = g.C.Elements.Written.bounds }) (Script file from c.args.part) c.args.device.now c.show_region.new.device c.args.out.now c.show_region.new.out (exit_number c.show_region.result))
    (sym c.in-Some.is) (c.show_region.ensures.answered file)

pub returns-in-None-clause-answered : goal.returns-in-None-clause-answered
returns-in-None-clause-answered g c file =
    subst (λ from. IsCommandAnswered g.D.Device.shown g.K.Sink.shown g.O.Object.Contents g.O.Object.Rejects (record { kind = g.O.Object.KIND; Carrying = g.C.Carry.Carrying; Sized = g.C.Carry.Sized; Measured = g.C.Carry.Measured; bounds = g.C.Elements.Written.bounds }) (Script file from c.args.part) c.args.device.now c.show_counted.new.device c.args.out.now c.show_counted.new.out (exit_number c.show_counted.result))
    (sym c.in-None.is) (c.show_counted.ensures.answered file)
