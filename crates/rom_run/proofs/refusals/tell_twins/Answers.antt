use Rattle.std.proofs.Common.{◌≡◌, ◌++◌, ◌∙◌, codes, decimal, subst}
use Rattle.rom_text.specs.Runs.{IsLineWrittenOrCutShort}
use Rattle.rom_run.proofs.Joined.{six_pieces}
use Rattle.rom_run.proofs.refusals.tell_twins.Goals as goal

pub returns-clause-told : goal.returns-clause-told
returns-clause-told g c =
    let offset : c.format-offset.result.now ≡ decimal c.args.offset = c.format-offset.ensures.text in
    let main : c.format-main.result.now ≡ decimal c.args.main = c.format-main.ensures.text in
    let back : c.format-back.result.now ≡ decimal c.args.back = c.format-back.ensures.text in
    subst (λ line. IsLineWrittenOrCutShort g.O.Sink.shown c.args.out.now c.tell.new.out line)
    (six_pieces (codes "refused: twins differ at ") c.format-offset.result.now (codes ", main ") c.format-main.result.now (codes ", back ") c.format-back.result.now
    ∙ (λ i. codes "refused: twins differ at " ++ offset i ++ codes ", main " ++ main i ++ codes ", back " ++ back i)) c.tell.ensures.told
