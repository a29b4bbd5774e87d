use Rattle.std.proofs.Common.{subst, sym}
use Rattle.rom_copy.specs.declared.untaken.Untaken.{Untaken}
use Rattle.rom_text.specs.Runs.{IsLineWrittenOrCutShort}
use Rattle.rom_dump.specs.Copying.{untaken_line}
use Rattle.rom_dump.proofs.copying.tell_untaken.Goals as goal

pub returns-in-Unfinished-clause-told : goal.returns-in-Unfinished-clause-told
returns-in-Unfinished-clause-told g c =
    subst (λ (p : Untaken). IsLineWrittenOrCutShort g.O.Sink.shown c.args.out.now c.tell_unfinished.new.out (untaken_line c.args.kind p)) (sym c.in-Unfinished.is) c.tell_unfinished.ensures.told
