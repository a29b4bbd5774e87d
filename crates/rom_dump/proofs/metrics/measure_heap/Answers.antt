use Rattle.std.proofs.Common.{inl, inr, refl, subst}
use Rattle.std.specs.Prelude.{slice_index}
use Rattle.rom_run.specs.Refusing.{refusal_line}
use Rattle.rom_text.specs.Runs.{IsLineWrittenOrCutShort}
use Rattle.rom_dump.specs.Shown.{EndsAsText, metrics_text}
use Rattle.rom_dump.specs.Words.{Metrics}
use Rattle.rom_dump.proofs.Showing.{is_refused, is_shown}
use Rattle.rom_dump.proofs.metrics.measure_heap.Goals as goal

pub returns-in-Ok-print_metrics-clause-answered : goal.returns-in-Ok-print_metrics-clause-answered
returns-in-Ok-print_metrics-clause-answered g c file =
    let o = g.K.Sink.shown in
    let seen = c.in-Ok.ensures in
    let x = seen.fit in
    let n = c.in-Ok.viewed.order in
    let region = c.in-Ok.viewed.image.items in
    let measures = g.met.C.Carry.some_measures n region x.0 x.1 x.2 in
    is_shown g.D.Device.shown o g.O.Object.Contents g.O.Object.Rejects (record { kind = g.O.Object.KIND; Carrying = g.C.Carry.Carrying; Sized = g.C.Carry.Sized; Measured = g.C.Carry.Measured; bounds = g.C.Elements.Written.bounds }) c.args.device.now c.view_device.new.device c.args.out.now c.print_metrics.new.out (Metrics file) n c.in-Ok.viewed.state region 0 x seen.viewed seen.state seen.fits seen.faults
    (record {
      measures = measures.0;
      measured = measures.1;
      printed = subst (λ state. EndsAsText o (metrics_text n g.O.Object.KIND (slice_index region 2) state measures.0) c.args.out.now c.print_metrics.new.out 0) c.word-state.ensures.word
          (let p = c.in-Ok-print_metrics.ensures.prints measures.0 measures.1 in inl (refl, (p.bytes, p.cause.none)));
    })

pub returns-in-Err-print_metrics-clause-answered : goal.returns-in-Err-print_metrics-clause-answered
returns-in-Err-print_metrics-clause-answered g c file =
    let o = g.K.Sink.shown in
    let seen = c.in-Ok.ensures in
    let x = seen.fit in
    let n = c.in-Ok.viewed.order in
    let region = c.in-Ok.viewed.image.items in
    let measures = g.met.C.Carry.some_measures n region x.0 x.1 x.2 in
    is_shown g.D.Device.shown o g.O.Object.Contents g.O.Object.Rejects (record { kind = g.O.Object.KIND; Carrying = g.C.Carry.Carrying; Sized = g.C.Carry.Sized; Measured = g.C.Carry.Measured; bounds = g.C.Elements.Written.bounds }) c.args.device.now c.view_device.new.device c.args.out.now c.print_metrics.new.out (Metrics file) n c.in-Ok.viewed.state region 5 x seen.viewed seen.state seen.fits seen.faults
    (record {
      measures = measures.0;
      measured = measures.1;
      printed = subst (λ state. EndsAsText o (metrics_text n g.O.Object.KIND (slice_index region 2) state measures.0) c.args.out.now c.print_metrics.new.out 5) c.word-state.ensures.word
          (let p = c.in-Err-print_metrics.ensures.prints measures.0 measures.1 in inr (refl, (p.bytes, p.cause.failed)));
    })

pub returns-in-Err-clause-answered : goal.returns-in-Err-clause-answered
returns-in-Err-clause-answered g c file =
    let none = c.in-Err.ensures in
    is_refused g.D.Device.shown g.K.Sink.shown g.O.Object.Contents g.O.Object.Rejects (record { kind = g.O.Object.KIND; Carrying = g.C.Carry.Carrying; Sized = g.C.Carry.Sized; Measured = g.C.Carry.Measured; bounds = g.C.Elements.Written.bounds }) c.args.device.now c.view_device.new.device c.args.out.now c.refuse.new.out (Metrics file) c.in-Err.why c.refuse.result c.refuse.ensures.status none.refused none.sizes none.faults
    (subst (λ kind. IsLineWrittenOrCutShort g.K.Sink.shown c.args.out.now c.refuse.new.out (refusal_line kind c.in-Err.why)) c.KIND.ensures c.refuse.ensures.told)
