use Rattle.std.proofs.Common.{rules, ◌<◌, ◌∙◌, length}
use Rattle.std.proofs.lemmas.List.{get_or-take, get_or_append_left}
use Rattle.rom_recover.proofs.Copying.{piece_does}
use Rattle.rom_recover.proofs.copy.copy_piece.Goals as goal

pub returns-clause-does : goal.returns-clause-does
returns-clause-does g c =
    piece_does g.D.Device.shown g.met.D.Device.tells_both (λ doubts. (g.met.D.Device.doubts_told doubts).words) c.args.from c.args.to c.args.count _ c.args.device.now c.read_words.new.self c.write_words.new.self
    c.read_words.ensures.only c.write_words.ensures.does (search rules) (λ told k lt.
    let inside : k < length c.read_words.new.into = search rules in
    let read : k < c.read_words.result = search rules in
    get_or-take c.args.count _ k 0 lt ∙ get_or_append_left c.read_words.new.into _ 0 k inside ∙ c.read_words.ensures.read told k read)
