use Rattle.std.proofs.Common.{subst, sym}
use Rattle.rom_header.specs.declared.fresh.FormatRefused.{FormatRefused}
use Rattle.rom_text.specs.Runs.{IsLineWrittenOrCutShort}
use Rattle.rom_dump.specs.Copying.{unput_line}
use Rattle.rom_dump.proofs.copying.tell_unput.Goals as goal

pub returns-in-AlreadyAHeap-clause-told : goal.returns-in-AlreadyAHeap-clause-told
returns-in-AlreadyAHeap-clause-told g c =
    subst (λ (p : FormatRefused). IsLineWrittenOrCutShort g.O.Sink.shown c.args.out.now c.tell_there.new.out (unput_line p)) (sym c.in-AlreadyAHeap.is) c.tell_there.ensures.told

pub returns-in-TooSmall-clause-told : goal.returns-in-TooSmall-clause-told
returns-in-TooSmall-clause-told g c =
    subst (λ (p : FormatRefused). IsLineWrittenOrCutShort g.O.Sink.shown c.args.out.now c.tell_unread.new.out (unput_line p)) (sym c.in-TooSmall.is) c.tell_unread.ensures.told

pub returns-in-Device-clause-told : goal.returns-in-Device-clause-told
returns-in-Device-clause-told g c =
    subst (λ (p : FormatRefused). IsLineWrittenOrCutShort g.O.Sink.shown c.args.out.now c.tell_unread-in-Device.new.out (unput_line p)) (sym c.in-Device.is) c.tell_unread-in-Device.ensures.told
