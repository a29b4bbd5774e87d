use Rattle.std.proofs.Common.{◌++◌, ◌∙◌, codes, ap, subst, append-nil}
use Rattle.rom_text.specs.Runs.{IsLineWrittenOrCutShort}
use Rattle.rom_dump.proofs.growing.tell_order.Goals as goal

pub returns-clause-told : goal.returns-clause-told
returns-clause-told g c =
    subst (λ line. IsLineWrittenOrCutShort g.K.Sink.shown c.args.out.now c.tell.new.out line)
    (ap (λ text. codes "refused: has order " ++ text) (append-nil c.format.result.now ∙ c.format.ensures.text)) c.tell.ensures.told
