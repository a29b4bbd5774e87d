use Rattle.std.proofs.Common.{◌≡◌, ◌*◌, ◌∙◌, ℕ, List, length, arith, take}
use Rattle.std.proofs.lemmas.List.{length-take-le}
use borrow.Rule.Slice.PartMut.{post_of}
use Rattle.rom_device.specs.Page.{page_word}
use Rattle.rom_device.specs.Laid.{word_among}
use Rattle.rom_device.proofs.Told.{on_true}
use Rattle.rom_device.proofs.Paged.{number_front}
use Rattle.rom_device.proofs.page.Page.read.Goals as goal

pub returns-clause-words : goal.returns-clause-words
unfolding page_word word_among
returns-clause-words g c told =
    let bytes : List ℕ = c.args.self.now.bytes in
    let part : List ℕ = c.read_at.new.into in
    let long : length (take (8 * c.args.count) bytes) ≡ 8 * c.args.count = length-take-le (8 * c.args.count) bytes (omega (arith, c.requires)) in
    on_true c.read_at.result (λ read k lt. number_front (8 * k) part (post_of 0 (8 * c.args.count) bytes) (omega (arith, long, c.read_at.ensures.len, lt)) ∙ read k (omega (arith, long, lt))) (c.read_at.ensures.words told)
