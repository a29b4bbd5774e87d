use Rattle.std.proofs.Common.{◌≡◌, ◌++◌, ◌∙◌, codes, decimal, subst}
use Rattle.rom_text.specs.Runs.{IsLineWrittenOrCutShort}
use Rattle.rom_run.specs.Refusing.{rule_name}
use Rattle.rom_run.proofs.Joined.{four_pieces}
use Rattle.rom_run.proofs.malformed.tell_broken.Goals as goal

pub returns-clause-told : goal.returns-clause-told
returns-clause-told g c =
    let offset : c.format-offset.result.now ≡ decimal c.args.offset = c.format-offset.ensures.text in
    let rule : c.rule_name.result.now ≡ rule_name c.args.rule = c.rule_name.ensures in
    subst (λ line. IsLineWrittenOrCutShort g.O.Sink.shown c.args.out.now c.tell.new.out line)
    (four_pieces (codes "refused: malformed at ") c.format-offset.result.now (codes ", rule ") c.rule_name.result.now
    ∙ (λ i. codes "refused: malformed at " ++ offset i ++ codes ", rule " ++ rule i)) c.tell.ensures.told
