use Rattle.std.proofs.Common.{Result, subst, sym}
use Rattle.rom_header.specs.declared.fresh.FormatRefused.{FormatRefused}
use Rattle.rom_text.specs.Runs.{IsLineWrittenOrCutShort}
use Rattle.rom_dump.specs.Copying.{put_line}
use Rattle.rom_dump.proofs.copying.tell_put.Goals as goal

pub returns-in-Ok-clause-told : goal.returns-in-Ok-clause-told
returns-in-Ok-clause-told g c =
    subst (λ (p : Result (Unit {0}) FormatRefused). IsLineWrittenOrCutShort g.O.Sink.shown c.args.out.now c.tell_made.new.out (put_line c.args.made c.args.order c.args.count p)) (sym c.in-Ok.is) c.tell_made.ensures.told
