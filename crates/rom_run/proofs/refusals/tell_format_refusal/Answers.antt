use Rattle.std.proofs.Common.{sym, subst}
use Rattle.rom_text.specs.Runs.{IsLineWrittenOrCutShort}
use Rattle.rom_open.specs.declared.new_heap.NotFormatted.TheVariants.{Refused}
use Rattle.rom_run.specs.Refusing.{unmade_line}
use Rattle.rom_run.proofs.refusals.tell_format_refusal.Goals as goal

pub returns-in-AlreadyAHeap-clause-told : goal.returns-in-AlreadyAHeap-clause-told
returns-in-AlreadyAHeap-clause-told g c = subst (λ why. IsLineWrittenOrCutShort g.O.Sink.shown c.args.out.now c.tell.new.out (unmade_line (Refused why))) (sym c.in-AlreadyAHeap.is) c.tell.ensures.told

pub returns-in-TooSmall-clause-told : goal.returns-in-TooSmall-clause-told
returns-in-TooSmall-clause-told g c = subst (λ why. IsLineWrittenOrCutShort g.O.Sink.shown c.args.out.now c.tell_too_small.new.out (unmade_line (Refused why))) (sym c.in-TooSmall.is) c.tell_too_small.ensures.told

pub returns-in-Device-clause-told : goal.returns-in-Device-clause-told
returns-in-Device-clause-told g c = subst (λ why. IsLineWrittenOrCutShort g.O.Sink.shown c.args.out.now c.tell-in-Device.new.out (unmade_line (Refused why))) (sym c.in-Device.is) c.tell-in-Device.ensures.told
