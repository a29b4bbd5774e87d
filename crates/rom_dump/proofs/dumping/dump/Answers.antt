use Rattle.std.proofs.Common.{◌∙◌, sym, ap}
use Rattle.std.specs.Prelude.{Some}
use Rattle.rom_dump.specs.declared.words.Dump.{Dump}
use Rattle.rom_dump.specs.Named.{dump_command_read}
use Rattle.rom_dump.specs.Words.{Script, Check, Metrics, dump_command}
use Rattle.rom_run.specs.Statuses.{exit_number}
use Rattle.rom_dump.proofs.Promising.{no_command, promised}
use Rattle.rom_dump.proofs.dumping.dump.Goals as goal

pub returns-in_default : goal.returns-in_default
returns-in_default g c = record {
  promise = no_command g.D.Device.shown g.K.Sink.shown g.O.Object.Contents g.O.Object.Rejects (record { kind = g.O.Object.KIND; Carrying = g.C.Carry.Carrying; Sized = g.C.Carry.Sized; Measured = g.C.Carry.Measured; bounds = g.C.Elements.Written.bounds }) c.args.device.now c.args.out.now c.tell.new.out (dump_command c.args.words.now) c.number.result (sym c.in_default.ensures.named) c.number.ensures c.tell.ensures.told c.tell.ensures.rest;
}

pub returns-in-Script : goal.returns-in-Script
returns-in-Script g c = record {
  promise = promised g.D.Device.shown g.K.Sink.shown g.O.Object.Contents g.O.Object.Rejects (record { kind = g.O.Object.KIND; Carrying = g.C.Carry.Carrying; Sized = g.C.Carry.Sized; Measured = g.C.Carry.Measured; bounds = g.C.Elements.Written.bounds }) c.args.device.now c.args.out.now c.show_script.new.out (dump_command c.args.words.now) c.number-in-Script.result c.show_script.new.device (Script c.in-Script.file.now c.in-Script.from c.in-Script.part) (exit_number c.show_script.result)
      (sym c.in-Some.ensures.named ∙ ap (λ (asked : Dump). dump_command_read (Some asked)) c.in-Script.is) c.number-in-Script.ensures (c.show_script.ensures.answered c.in-Script.file.now) c.show_script.ensures.only c.show_script.ensures.rest;
}

pub returns-in-Check : goal.returns-in-Check
returns-in-Check g c = record {
  promise = promised g.D.Device.shown g.K.Sink.shown g.O.Object.Contents g.O.Object.Rejects (record { kind = g.O.Object.KIND; Carrying = g.C.Carry.Carrying; Sized = g.C.Carry.Sized; Measured = g.C.Carry.Measured; bounds = g.C.Elements.Written.bounds }) c.args.device.now c.args.out.now c.check_heap.new.out (dump_command c.args.words.now) c.number-in-Check.result c.check_heap.new.device (Check c.in-Check.file.now c.in-Check.from) (exit_number c.check_heap.result)
      (sym c.in-Some.ensures.named ∙ ap (λ (asked : Dump). dump_command_read (Some asked)) c.in-Check.is) c.number-in-Check.ensures (c.check_heap.ensures.answered c.in-Check.file.now) c.check_heap.ensures.only c.check_heap.ensures.rest;
}

pub returns-in-Metrics : goal.returns-in-Metrics
returns-in-Metrics g c = record {
  promise = promised g.D.Device.shown g.K.Sink.shown g.O.Object.Contents g.O.Object.Rejects (record { kind = g.O.Object.KIND; Carrying = g.C.Carry.Carrying; Sized = g.C.Carry.Sized; Measured = g.C.Carry.Measured; bounds = g.C.Elements.Written.bounds }) c.args.device.now c.args.out.now c.measure_heap.new.out (dump_command c.args.words.now) c.number-in-Metrics.result c.measure_heap.new.device (Metrics c.in-Metrics.file.now) (exit_number c.measure_heap.result)
      (sym c.in-Some.ensures.named ∙ ap (λ (asked : Dump). dump_command_read (Some asked)) c.in-Metrics.is) c.number-in-Metrics.ensures (c.measure_heap.ensures.answered c.in-Metrics.file.now) c.measure_heap.ensures.only c.measure_heap.ensures.rest;
}
