use Rattle.std.proofs.Common.{subst, sym}
use Rattle.rom_text.specs.Runs.{IsLineWrittenOrCutShort}
use Rattle.rom_dump.specs.Growing.{ungrown_line}
use Rattle.rom_dump.specs.declared.grow.Ungrown.{Ungrown}
use Rattle.rom_dump.proofs.growing.tell_ungrown.Goals as goal

pub returns-in-NotGreater-clause-told : goal.returns-in-NotGreater-clause-told
returns-in-NotGreater-clause-told g c =
    subst (λ (why : Ungrown). IsLineWrittenOrCutShort g.K.Sink.shown c.args.out.now c.tell_order.new.out (ungrown_line c.args.kind why)) (sym c.in-NotGreater.is) c.tell_order.ensures.told
