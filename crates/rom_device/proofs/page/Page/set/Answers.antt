use Rattle.std.proofs.Common.{◌≡◌, ◌+◌, ◌-◌, ◌*◌, length, arith, refl, ap, ◌∙◌}
use Rattle.std.proofs.Common.{List, ℕ, drop}
use borrow.Rule.Slice.PartMut.{put_mid}
use Rattle.byteorder.specs.Endian.{little_number}
use Rattle.rom_device.specs.Page.{page_word}
use Rattle.rom_device.proofs.Paged.{word_here, word_other}
use Rattle.rom_device.proofs.page.Page.set.Goals as goal

pub returns-clause-here : goal.returns-clause-here
unfolding page_word
returns-clause-here c =
    let bytes : List ℕ = c.args.self.now.bytes in
    let at : ℕ = 8 * c.args.index in
    let whole : at + (4096 - at) ≡ length bytes = omega (arith, c.requires) in
    ap (λ (part : List ℕ). little_number 8 (drop at (put_mid at (4096 - at) bytes part))) c.write_u64.ensures
    ∙ word_here bytes at (4096 - at) c.args.word whole (omega (arith, c.requires)) c.ranges.word.fits

pub returns-clause-others : goal.returns-clause-others
unfolding page_word
returns-clause-others c k other =
    let bytes : List ℕ = c.args.self.now.bytes in
    let at : ℕ = 8 * c.args.index in
    let whole : at + (4096 - at) ≡ length bytes = omega (arith, c.requires) in
    ap (λ (part : List ℕ). little_number 8 (drop (8 * k) (put_mid at (4096 - at) bytes part))) c.write_u64.ensures
    ∙ word_other bytes at (4096 - at) c.args.word whole (omega (arith, c.requires)) c.args.index k refl other
