use Rattle.std.proofs.Common.{◌≡◌, ◌++◌, ◌∙◌, codes, decimal, subst}
use Rattle.rom_text.specs.Runs.{IsLineWrittenOrCutShort}
use Rattle.rom_dump.proofs.Showing.{three_pieces}
use Rattle.rom_dump.proofs.script.tell_too_long.Goals as goal

pub returns-clause-told : goal.returns-clause-told
returns-clause-told g c =
    let parts : c.format.result.now ≡ decimal c.args.parts = c.format.ensures.text in
    subst (λ line. IsLineWrittenOrCutShort g.K.Sink.shown c.args.out.now c.tell.new.out line)
    (three_pieces (codes "script too long, ") c.format.result.now (codes " parts") ∙ (λ i. codes "script too long, " ++ parts i ++ codes " parts")) c.tell.ensures.told
