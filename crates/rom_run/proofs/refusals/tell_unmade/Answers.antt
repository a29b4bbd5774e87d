use Rattle.std.proofs.Common.{sym, subst}
use Rattle.rom_text.specs.Runs.{IsLineWrittenOrCutShort}
use Rattle.rom_run.specs.Refusing.{unmade_line}
use Rattle.rom_run.proofs.refusals.tell_unmade.Goals as goal

pub returns-in-Refused-clause-told : goal.returns-in-Refused-clause-told
returns-in-Refused-clause-told g c = subst (λ why. IsLineWrittenOrCutShort g.O.Sink.shown c.args.out.now c.tell_format_refusal.new.out (unmade_line why)) (sym c.in-Refused.is) c.tell_format_refusal.ensures.told

pub returns-in-OutOfMemory-clause-told : goal.returns-in-OutOfMemory-clause-told
returns-in-OutOfMemory-clause-told g c = subst (λ why. IsLineWrittenOrCutShort g.O.Sink.shown c.args.out.now c.tell.new.out (unmade_line why)) (sym c.in-OutOfMemory.is) c.tell.ensures.told
