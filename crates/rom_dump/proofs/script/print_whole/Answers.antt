use Rattle.std.proofs.Common.{inr, ap, subst}
use Rattle.rom_run.specs.Statuses.{exit_number}
use Rattle.rom_text.specs.Runs.{IsLineWrittenOrCutShort}
use Rattle.rom_dump.specs.Shown.{too_long_line}
use Rattle.rom_dump.proofs.script.print_whole.Goals as goal

pub returns-then-not-fits-clause-text : goal.returns-then-not-fits-clause-text
returns-then-not-fits-clause-text g c =
    inr (c.if-not-fits.ensures, ap exit_number c.tell_too_long.ensures.status, subst (λ n. IsLineWrittenOrCutShort g.K.Sink.shown c.args.out.now c.tell_too_long.new.out (too_long_line n)) c.parts.ensures c.tell_too_long.ensures.told)
