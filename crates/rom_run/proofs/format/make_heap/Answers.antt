use Rattle.std.proofs.Common.{◌++◌, ◌∙◌, ap, codes, subst}
use Rattle.rom_header.specs.Calls.{format_reads, format_writes, format_syncs}
use Rattle.rom_text.specs.Runs.{IsLineWrittenOrCutShort}
use Rattle.rom_run.specs.Statuses.{exit_number}
use Rattle.rom_run.proofs.Joined.{two_pieces}
use Rattle.rom_run.proofs.Showing.{making_failed, refused_alone, want_of_memory}
use Rattle.rom_run.proofs.format.make_heap.Goals as goal

pub returns-in-Ok-clause-made : goal.returns-in-Ok-clause-made
returns-in-Ok-clause-made g c = λ done. record {
  accepted = c.in-Ok.ensures.answer;
  fits = c.in-Ok.ensures.fits;
  held = c.in-Ok.ensures.held;
  images = c.in-Ok.ensures.held_images;
  faults = c.in-Ok.ensures.makes.cause.none;
  told = subst (λ line. IsLineWrittenOrCutShort g.K.Sink.shown c.args.out.now c.tell.new.out line)
      (two_pieces (codes "formatted order ") c.format.result.now ∙ ap (λ digits. codes "formatted order " ++ digits) c.format.ensures.text) c.tell.ensures.told;
}

pub returns-in-Err-clause-heap_refused : goal.returns-in-Err-clause-heap_refused
returns-in-Err-clause-heap_refused g c = λ three.
    refused_alone g.D.Device.shown g.K.Sink.shown c.args.device.now c.format_device.new.device c.args.out.now c.tell_unmade.new.out c.args.order c.in-Err.why _
    (ap exit_number c.unmade_status.ensures) three c.in-Err.ensures.answer c.in-Err.ensures.sizes c.in-Err.ensures.makes c.tell_unmade.ensures.told

pub returns-in-Err-clause-device_failed : goal.returns-in-Err-clause-device_failed
returns-in-Err-clause-device_failed g c = λ seven.
    making_failed g.D.Device.shown g.K.Sink.shown c.args.device.now c.format_device.new.device c.args.out.now c.tell_unmade.new.out c.in-Err.why _ c.args.order format_reads (format_writes c.args.order) format_syncs
    (ap exit_number c.unmade_status.ensures) seven c.in-Err.ensures.makes c.tell_unmade.ensures.told

pub returns-in-Err-clause-uncalled : goal.returns-in-Err-clause-uncalled
returns-in-Err-clause-uncalled g c = λ six. c.format_device.ensures.memory (want_of_memory c.format_device.result c.in-Err.why _ c.in-Err.is (ap exit_number c.unmade_status.ensures) six)
