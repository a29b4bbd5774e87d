use Rattle.std.proofs.Common.{refl, subst}
use Rattle.std.specs.Prelude.{Some}
use Rattle.rom_run.specs.Refusing.{refusal_line}
use Rattle.rom_text.specs.Runs.{IsLineWrittenOrCutShort}
use Rattle.rom_text.specs.Streams.{Prints}
use Rattle.rom_dump.specs.Shown.{check_text}
use Rattle.rom_dump.specs.Words.{Check}
use Rattle.rom_dump.proofs.Showing.{alone_shown, alone_refused, put}
use Rattle.rom_dump.proofs.check.check_region.Goals as goal

pub returns-in-Ok-clause-answered : goal.returns-in-Ok-clause-answered
returns-in-Ok-clause-answered g c file =
    let shown = g.D.Device.shown in
    let o = g.K.Sink.shown in
    let seen = c.in-Ok.ensures in
    let x = seen.fit in
    let sizes = g.met.C.Carry.some_sizes c.in-Ok.alone.order c.in-Ok.alone.image.items x.0 x.1 x.2 in
    let told = subst (λ line. Prints o c.args.out.now c.print_check.new.out c.print_check.result (check_text line g.O.Object.KIND sizes.0)) c.alone_line.ensures (c.print_check.ensures.prints sizes.0 sizes.1) in
    alone_shown shown o g.O.Object.Contents g.O.Object.Rejects (record { kind = g.O.Object.KIND; Carrying = g.C.Carry.Carrying; Sized = g.C.Carry.Sized; Measured = g.C.Carry.Measured; bounds = g.C.Elements.Written.bounds }) c.args.device.now c.view_region.new.device c.args.out.now c.print_check.new.out (Check file (Some c.args.region)) c.args.region c.in-Ok.alone.order c.in-Ok.alone.image.items 0 x seen.viewed seen.fits seen.faults
    (record { sizes = sizes.0; sized = sizes.1; printed = put o _ _ _ _ told; done = refl })

pub returns-in-Ok-clause-rest : goal.returns-in-Ok-clause-rest
returns-in-Ok-clause-rest g c =
    let x = c.in-Ok.ensures.fit in
    let sizes = g.met.C.Carry.some_sizes c.in-Ok.alone.order c.in-Ok.alone.image.items x.0 x.1 x.2 in
    (c.print_check.ensures.prints sizes.0 sizes.1).rest

pub returns-in-Err-clause-answered : goal.returns-in-Err-clause-answered
returns-in-Err-clause-answered g c file =
    let none = c.in-Err.ensures in
    alone_refused g.D.Device.shown g.K.Sink.shown g.O.Object.Contents g.O.Object.Rejects (record { kind = g.O.Object.KIND; Carrying = g.C.Carry.Carrying; Sized = g.C.Carry.Sized; Measured = g.C.Carry.Measured; bounds = g.C.Elements.Written.bounds }) c.args.device.now c.view_region.new.device c.args.out.now c.refuse.new.out (Check file (Some c.args.region)) c.args.region c.in-Err.why c.refuse.result c.refuse.ensures.status none.refused none.sizes none.faults
    (subst (λ kind. IsLineWrittenOrCutShort g.K.Sink.shown c.args.out.now c.refuse.new.out (refusal_line kind c.in-Err.why)) c.KIND.ensures c.refuse.ensures.told)
