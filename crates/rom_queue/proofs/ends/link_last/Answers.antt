use Rattle.std.proofs.Common.{◌≡◌, ◌+◌, slice_index, rules, refl, arith, ap}
use Rattle.rom_model.specs.Space.{IsSparing}
use Rattle.rom_block.proofs.Apart.{sparing_more, sparing_load}
use Rattle.rom_queue.proofs.ends.link_last.Goals as goal

pub returns-clause-sparing : goal.returns-clause-sparing
returns-clause-sparing g c other other_tail =
    let shown = g.M.Look.shown in
    let start = c.args.space.now in
    let linked = c.store.new.self in
    let put = c.store-2.new.self in
    let loaded = c.load-len.new.self in
    let none : IsSparing shown start start = λ told. omega arith in
    let one = sparing_more shown start start linked c.args.link c.args.at c.store.ensures.image refl (omega (arith, c.requires.within)) refl other c.store.ensures.counts none in
    let two = sparing_more shown start linked put 4 c.args.at c.store-2.ensures.image (search rules) (omega (arith, c.requires.long)) (search rules) other_tail c.store-2.ensures.counts one in
    let three = sparing_load shown start put loaded c.load-len.ensures.image c.load-len.ensures.counts two in
    let len : slice_index (shown.image loaded) 5 ≡ slice_index (shown.image start) 5 = search rules in
    sparing_more shown start loaded c.store-3.new.self 5 (c.load-len.result + 1) c.store-3.ensures.image (search rules) (omega (arith, c.requires.long)) len
    (λ e. absurd (omega (arith, e, len, c.load-len.ensures.word, ap (λ x. slice_index x 5) c.load-len.ensures.image))) c.store-3.ensures.counts three
