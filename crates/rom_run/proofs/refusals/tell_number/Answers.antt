use Rattle.std.proofs.Common.{◌++◌, ap, ◌∙◌, subst}
use Rattle.rom_text.specs.Runs.{IsLineWrittenOrCutShort}
use Rattle.rom_run.proofs.Joined.{two_pieces}
use Rattle.rom_run.proofs.refusals.tell_number.Goals as goal

pub returns-clause-told : goal.returns-clause-told
returns-clause-told g c =
    subst (λ line. IsLineWrittenOrCutShort g.O.Sink.shown c.args.out.now c.tell.new.out line)
    (two_pieces c.args.name.now c.format.result.now ∙ ap (λ digits. c.args.name.now ++ digits) c.format.ensures.text) c.tell.ensures.told
