use Rattle.std.proofs.Common.{◌++◌, ◌∙◌, ap, codes, refl, subst, sym}
use Rattle.rom_text.specs.Runs.{IsLineWrittenOrCutShort}
use Rattle.rom_run.proofs.Joined.{three_pieces, two_pieces}
use Rattle.rom_run.proofs.malformed.tell_another_kind.Goals as goal

pub returns-in-Some-clause-told : goal.returns-in-Some-clause-told
returns-in-Some-clause-told g c =
    subst (λ line. IsLineWrittenOrCutShort g.O.Sink.shown c.args.out.now c.tell.new.out line)
    (two_pieces (codes "refused: another kind, ") c.in-Some.name.now ∙ ap (λ name. codes "refused: another kind, " ++ name) c.in-Some.ensures.named) c.tell.ensures.told

pub returns-in-None-clause-told : goal.returns-in-None-clause-told
returns-in-None-clause-told g c =
    subst (λ line. IsLineWrittenOrCutShort g.O.Sink.shown c.args.out.now c.tell-in-None.new.out line)
    (three_pieces (codes "refused: another kind, ") (codes "kind ") c.format-found.result.now
    ∙ ap (λ name. codes "refused: another kind, " ++ name) (ap (λ digits. codes "kind " ++ digits) c.format-found.ensures.text ∙ sym (c.in-None.ensures.unnamed refl))) c.tell-in-None.ensures.told
