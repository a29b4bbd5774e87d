use Rattle.std.proofs.Common.{◌≡◌, ◌<◌, ◌^◌, ap, ◌∙◌, subst}
use Rattle.std.specs.Prelude.{All}
use Rattle.rom_frame.specs.Frames.{bytes_of}
use Rattle.rom_frame.specs.Heads.{AreWords, head, head_words}
use Rattle.rom_frame.proofs.Heads.{no_head}
use Rattle.rom_frame.proofs.head.Head.fill.Goals as goal

pub returns-clause-head : goal.returns-clause-head
returns-clause-head c = c.put.ensures.bytes ∙ ap bytes_of c.words.ensures

pub returns-clause-no_frame : goal.returns-clause-no_frame
returns-clause-no_frame c f small =
    let words : AreWords c.args.self.now = subst (All (λ w. w < 2 ^ 64)) c.words.ensures c.put.ensures.small in
    no_head f c.args.self.now small words
