use Rattle.std.proofs.Common.{◌≡◌, ℕ, ◌+◌, List, length, arith, ap, ◌∙◌, length-set, get_or-set_other}
use Rattle.std.specs.Prelude.{slice_index, slice_set}
use Rattle.rom_model.specs.Links.{link_after}
use Rattle.rom_set.proofs.Links.{link_not_len}
use Rattle.rom_block.proofs.Apart.{sparing_more, sparing_load}
use Rattle.rom_set.proofs.Linked.{stored_of, linked, place_within, place_beside, link_stays, link_changes}
use Rattle.rom_set.proofs.link.link_node.Goals as goal

pub store-requires-clause-within : goal.store-requires-clause-within
store-requires-clause-within g c =
    let m = c.requires.may in
    omega (arith, place_within m, m.is.walked.link_is, c.fill_node.ensures.others.as_long, c.requires.sized)

pub returns-clause-linked : goal.returns-clause-linked
returns-clause-linked g c m =
    let f = c.fill_node.ensures in
    let w = g.M.Look.shown.image c.args.space.now in
    let same = c.load-len.ensures.image ∙ c.store.ensures.image in
    let load = c.load-len.ensures.word ∙ ap (λ (x : List ℕ). slice_index x 7) c.store.ensures.image in
    let new = c.store-2.ensures.image ∙ ap (λ (x : List ℕ). slice_set x 7 (c.load-len.result + 1)) same in
    linked m (stored_of c.args.order m.block c.args.key c.args.place.node c.args.at c.args.place.link (link_after c.args.order 6 1 m.is.walked.front) c.load-len.result w (g.M.Look.shown.image c.fill_node.new.space) (g.M.Look.shown.image c.store-2.new.self)
    m.here m.is.walked.link_is (place_beside m) (link_not_len c.args.order m.is.walked.front) (omega (arith, place_within m, c.requires.sized)) (omega (arith, c.requires.sized))
    f.first f.second f.third f.fourth f.others load new)

pub returns-clause-sparing : goal.returns-clause-sparing
returns-clause-sparing g c =
    let shown = g.M.Look.shown in
    let m = c.requires.may in
    let f = c.fill_node.ensures in
    let start = c.args.space.now in
    let filled = c.fill_node.new.space in
    let put = c.store.new.self in
    let loaded = c.load-len.new.self in
    let words = c.load-len.ensures.image ∙ c.store.ensures.image in
    let long : length (shown.image loaded) ≡ length (shown.image start) = ap length words ∙ length-set (shown.image filled) c.args.place.link c.args.at ∙ f.others.as_long in
    let len : slice_index (shown.image loaded) 7 ≡ slice_index (shown.image start) 7 = ap (λ (x : List ℕ). slice_index x 7) words
    ∙ get_or-set_other (shown.image filled) c.args.place.link 7 c.args.at 0 (λ e. link_not_len c.args.order m.is.walked.front (omega (arith, e, m.is.walked.link_is))) ∙ f.others.before 7 (omega (arith, m.here)) in
    let one = sparing_more shown start filled put c.args.place.link c.args.at c.store.ensures.image f.others.as_long (omega (arith, place_within m, m.is.walked.link_is, c.requires.sized)) (link_stays m (shown.image filled) f.others) (link_changes m) c.store.ensures.counts f.sparing in
    let two = sparing_load shown start put loaded c.load-len.ensures.image c.load-len.ensures.counts one in
    sparing_more shown start loaded c.store-2.new.self 7 (c.load-len.result + 1) c.store-2.ensures.image long (omega (arith, c.requires.sized)) len
    (λ e. absurd (omega (arith, e, len, c.load-len.ensures.word, ap (λ (x : List ℕ). slice_index x 7) c.load-len.ensures.image))) c.store-2.ensures.counts two
