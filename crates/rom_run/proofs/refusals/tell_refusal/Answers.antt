use Rattle.std.proofs.Common.{sym, subst}
use Rattle.rom_text.specs.Runs.{IsLineWrittenOrCutShort}
use Rattle.rom_run.specs.Refusing.{refusal_line}
use Rattle.rom_run.proofs.refusals.tell_refusal.Goals as goal

pub returns-in-NotAHeap-clause-told : goal.returns-in-NotAHeap-clause-told
returns-in-NotAHeap-clause-told g c = subst (λ why. IsLineWrittenOrCutShort g.O.Sink.shown c.args.out.now c.tell.new.out (refusal_line c.args.kind why)) (sym c.in-NotAHeap.is) c.tell.ensures.told

pub returns-in-BadVersion-clause-told : goal.returns-in-BadVersion-clause-told
returns-in-BadVersion-clause-told g c = subst (λ why. IsLineWrittenOrCutShort g.O.Sink.shown c.args.out.now c.tell_number.new.out (refusal_line c.args.kind why)) (sym c.in-BadVersion.is) c.tell_number.ensures.told

pub returns-in-BadOrder-clause-told : goal.returns-in-BadOrder-clause-told
returns-in-BadOrder-clause-told g c = subst (λ why. IsLineWrittenOrCutShort g.O.Sink.shown c.args.out.now c.tell_number-in-BadOrder.new.out (refusal_line c.args.kind why)) (sym c.in-BadOrder.is) c.tell_number-in-BadOrder.ensures.told

pub returns-in-BadState-clause-told : goal.returns-in-BadState-clause-told
returns-in-BadState-clause-told g c = subst (λ why. IsLineWrittenOrCutShort g.O.Sink.shown c.args.out.now c.tell_number-in-BadState.new.out (refusal_line c.args.kind why)) (sym c.in-BadState.is) c.tell_number-in-BadState.ensures.told

pub returns-in-TooSmall-clause-told : goal.returns-in-TooSmall-clause-told
returns-in-TooSmall-clause-told g c = subst (λ why. IsLineWrittenOrCutShort g.O.Sink.shown c.args.out.now c.tell_too_small.new.out (refusal_line c.args.kind why)) (sym c.in-TooSmall.is) c.tell_too_small.ensures.told

pub returns-in-Twins-clause-told : goal.returns-in-Twins-clause-told
returns-in-Twins-clause-told g c = subst (λ why. IsLineWrittenOrCutShort g.O.Sink.shown c.args.out.now c.tell_twins.new.out (refusal_line c.args.kind why)) (sym c.in-Twins.is) c.tell_twins.ensures.told

pub returns-in-OldRegion-clause-told : goal.returns-in-OldRegion-clause-told
returns-in-OldRegion-clause-told g c = subst (λ why. IsLineWrittenOrCutShort g.O.Sink.shown c.args.out.now c.tell-in-OldRegion.new.out (refusal_line c.args.kind why)) (sym c.in-OldRegion.is) c.tell-in-OldRegion.ensures.told

pub returns-in-NewRegion-clause-told : goal.returns-in-NewRegion-clause-told
returns-in-NewRegion-clause-told g c = subst (λ why. IsLineWrittenOrCutShort g.O.Sink.shown c.args.out.now c.tell-in-NewRegion.new.out (refusal_line c.args.kind why)) (sym c.in-NewRegion.is) c.tell-in-NewRegion.ensures.told

pub returns-in-Malformed-clause-told : goal.returns-in-Malformed-clause-told
returns-in-Malformed-clause-told g c = subst (λ why. IsLineWrittenOrCutShort g.O.Sink.shown c.args.out.now c.tell_malformed.new.out (refusal_line c.args.kind why)) (sym c.in-Malformed.is) c.tell_malformed.ensures.told

pub returns-in-Device-clause-told : goal.returns-in-Device-clause-told
returns-in-Device-clause-told g c = subst (λ why. IsLineWrittenOrCutShort g.O.Sink.shown c.args.out.now c.tell-in-Device.new.out (refusal_line c.args.kind why)) (sym c.in-Device.is) c.tell-in-Device.ensures.told

pub returns-in-OutOfMemory-clause-told : goal.returns-in-OutOfMemory-clause-told
returns-in-OutOfMemory-clause-told g c = subst (λ why. IsLineWrittenOrCutShort g.O.Sink.shown c.args.out.now c.tell-in-OutOfMemory.new.out (refusal_line c.args.kind why)) (sym c.in-OutOfMemory.is) c.tell-in-OutOfMemory.ensures.told
