use Rattle.std.proofs.Common.{◌≢◌, ℕ, ◌<◌, List, length, get_or, subst, sym, ◌∙◌, arith}
use Rattle.rom_header.specs.Layout.{MAGIC}
use Rattle.rom_device.specs.Device.{WritesMany}
use Rattle.rom_device.proofs.Going.{leaves_none, leaves_on, leaves_then}
use Rattle.rom_copy.specs.Putting.{NoneOrWhole}
use Rattle.rom_copy.proofs.Wholes.{rest_of, sealed, still_none}
use Rattle.rom_copy.proofs.put.write_whole.Goals as goal

pub returns-clause-images : goal.returns-clause-images
returns-clause-images g c told =
    let shown = g.D.Device.shown in
    let words = g.met.D.Device.tells_both told in
    let whole = c.args.words.now in
    let old = shown.words c.args.device.now in
    let y = shown.words c.write_words.new.self in
    let none : get_or y 0 0 ≢ MAGIC = λ e. c.requires.none words (sym ((c.write_words.ensures.does.words words).only.before 0 (omega arith)) ∙ e) in
    let some : 0 < length y = omega (arith, g.met.D.Device.words_fit c.write_words.new.self words, c.write_words.ensures.does.size, c.requires.fits, c.requires.some) in
    let first = leaves_on shown (WritesMany 1 (rest_of whole)) (NoneOrWhole whole) c.args.device.now c.args.device.now c.write_words.new.self (leaves_none shown _ c.args.device.now) (c.write_words.ensures.does.images told)
    (λ x y was by. still_none whole (rest_of whole) x y (subst (λ (l : List ℕ). get_or l 0 0 ≢ MAGIC) (sym (c.requires.certain told x was)) (c.requires.none words)) by) in
    leaves_then shown _ _ _ _ _ (λ i by. sealed whole y i none some (c.in_ok-write_words.ensures.written words) by) first (c.write_certain.ensures.images told)
