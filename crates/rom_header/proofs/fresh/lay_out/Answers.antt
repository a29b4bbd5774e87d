use Rattle.std.proofs.Common.{◌≡◌, ◌∙◌, ℕ, ◌+◌, ◌<◌, arith, length, get_or, subst}
use Rattle.rom_model.specs.Space.{ChangesOnly}
use Rattle.rom_header.proofs.Making.{laid, laid_two, laid_three}
use Rattle.rom_header.proofs.fresh.lay_out.Goals as goal

pub returns-clause-laid : goal.returns-clause-laid
returns-clause-laid g c words =
    let image = c.args.image.now in
    let shown = g.D.Device.shown in
    let x = shown.words c.write_words.new.self in
    let y = shown.words c.write_words-2.new.self in
    let z = shown.words c.write_words-3.new.self in
    let header = c.in_ok-write_words-3.ensures.written words in
    laid c.args.geometry image x y z c.requires.image
    (subst (λ at. (k : ℕ) → k < length image → get_or x (at + k) 0 ≡ get_or image k 0) c.main.ensures (c.in_ok-write_words.ensures.written words))
    (subst (λ at. ChangesOnly at (length image) x y) c.back.ensures ((c.write_words-2.ensures.does.words words).only))
    (subst (λ at. (k : ℕ) → k < length image → get_or y (at + k) 0 ≡ get_or image k 0) c.back.ensures (c.in_ok-write_words-2.ensures.written words))
    ((c.write_words-3.ensures.does.words words).only) (header 0 (omega arith)) (header 1 (omega arith) ∙ c.from.ensures ∙ c.order.ensures.order) (header 2 (omega arith) ∙ c.word-idle.ensures.word)
    (header 3 (omega arith), header 4 (omega arith), header 5 (omega arith), header 6 (omega arith))

pub returns-in_err-write_words-2-clause-does : goal.returns-in_err-write_words-2-clause-does
returns-in_err-write_words-2-clause-does g c =
    laid_two g.D.Device.shown c.args.geometry c.main.result c.back.result c.args.image.now c.main.ensures c.back.ensures c.requires.image _ _ _ c.write_words.ensures.does c.write_words-2.ensures.does

pub returns-in_err-write_words-3-clause-does : goal.returns-in_err-write_words-3-clause-does
returns-in_err-write_words-3-clause-does g c =
    laid_three g.D.Device.shown c.args.geometry c.main.result c.back.result c.args.image.now c.main.ensures c.back.ensures c.requires.image _ _ _ c.write_words.ensures.does c.write_words-2.ensures.does
    _ (omega arith) _ c.write_words-3.ensures.does

pub returns-clause-does : goal.returns-clause-does
returns-clause-does g c =
    laid_three g.D.Device.shown c.args.geometry c.main.result c.back.result c.args.image.now c.main.ensures c.back.ensures c.requires.image _ _ _ c.write_words.ensures.does c.write_words-2.ensures.does
    _ (omega arith) _ c.write_words-3.ensures.does
