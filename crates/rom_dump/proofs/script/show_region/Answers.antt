use Rattle.std.proofs.Common.{inl, inr, subst}
use Rattle.std.specs.Prelude.{Some}
use Rattle.rom_run.specs.Refusing.{refusal_line}
use Rattle.rom_run.specs.Statuses.{exit_number}
use Rattle.rom_text.specs.Runs.{IsLineWrittenOrCutShort}
use Rattle.rom_dump.specs.Words.{Script}
use Rattle.rom_dump.proofs.Showing.{alone_shown, alone_refused, alone_no_memory}
use Rattle.rom_dump.proofs.script.show_region.Goals as goal

pub returns-in-Ok-clause-answered : goal.returns-in-Ok-clause-answered
returns-in-Ok-clause-answered g c file =
    let seen = c.in-Ok.ensures in
    elim c.print_script.ensures.printed [
      | inl again ↦ alone_shown g.D.Device.shown g.K.Sink.shown g.O.Object.Contents g.O.Object.Rejects (record { kind = g.O.Object.KIND; Carrying = g.C.Carry.Carrying; Sized = g.C.Carry.Sized; Measured = g.C.Carry.Measured; bounds = g.C.Elements.Written.bounds }) c.args.device.now c.view_region.new.device c.args.out.now c.print_script.new.out (Script file (Some c.args.region) c.args.part) c.args.region c.in-Ok.alone.order c.in-Ok.alone.image.items (exit_number c.print_script.result) seen.fit seen.viewed seen.fits seen.faults again
      | inr short ↦ alone_no_memory g.D.Device.shown g.K.Sink.shown g.O.Object.Contents g.O.Object.Rejects (record { kind = g.O.Object.KIND; Carrying = g.C.Carry.Carrying; Sized = g.C.Carry.Sized; Measured = g.C.Carry.Measured; bounds = g.C.Elements.Written.bounds }) c.args.device.now c.view_region.new.device c.args.out.now c.print_script.new.out (Script file (Some c.args.region) c.args.part) c.args.region c.in-Ok.alone.order c.in-Ok.alone.image.items c.print_script.result short.0 seen.viewed seen.faults short.1
    ]

pub returns-in-Err-clause-answered : goal.returns-in-Err-clause-answered
returns-in-Err-clause-answered g c file =
    let none = c.in-Err.ensures in
    alone_refused g.D.Device.shown g.K.Sink.shown g.O.Object.Contents g.O.Object.Rejects (record { kind = g.O.Object.KIND; Carrying = g.C.Carry.Carrying; Sized = g.C.Carry.Sized; Measured = g.C.Carry.Measured; bounds = g.C.Elements.Written.bounds }) c.args.device.now c.view_region.new.device c.args.out.now c.refuse.new.out (Script file (Some c.args.region) c.args.part) c.args.region c.in-Err.why c.refuse.result c.refuse.ensures.status none.refused none.sizes none.faults
    (subst (λ kind. IsLineWrittenOrCutShort g.K.Sink.shown c.args.out.now c.refuse.new.out (refusal_line kind c.in-Err.why)) c.KIND.ensures c.refuse.ensures.told)
