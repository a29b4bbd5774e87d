use Rattle.std.proofs.Common.{◌≡◌, ◌++◌, ◌∙◌, codes, decimal, subst}
use Rattle.rom_text.specs.Runs.{IsLineWrittenOrCutShort}
use Rattle.rom_run.proofs.Joined.{four_pieces}
use Rattle.rom_run.proofs.refusals.tell_too_small.Goals as goal

pub returns-clause-told : goal.returns-clause-told
returns-clause-told g c =
    let need : c.format-need.result.now ≡ decimal c.args.need = c.format-need.ensures.text in
    let have : c.format-have.result.now ≡ decimal c.args.have = c.format-have.ensures.text in
    subst (λ line. IsLineWrittenOrCutShort g.O.Sink.shown c.args.out.now c.tell.new.out line)
    (four_pieces (codes "refused: too small, need ") c.format-need.result.now (codes ", have ") c.format-have.result.now
    ∙ (λ i. codes "refused: too small, need " ++ need i ++ codes ", have " ++ have i)) c.tell.ensures.told
