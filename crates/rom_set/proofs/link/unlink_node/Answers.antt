use Rattle.std.proofs.Common.{◌≡◌, ℕ, ◌-◌, List, length, arith, ap, ◌∙◌, length-set}
use Rattle.std.specs.Prelude.{slice_index, slice_set}
use Rattle.rom_model.specs.Links.{link_after}
use Rattle.rom_set.proofs.Links.{link_not_len}
use Rattle.rom_model.specs.Space.{IsSparing}
use Rattle.rom_block.proofs.Apart.{sparing_more, sparing_load}
use Rattle.rom_set.proofs.Unlinked.{cut_of, len_stays, unlinked, link_in_region, block_within, some_len, link_changes}
use Rattle.rom_set.proofs.link.unlink_node.Goals as goal

pub returns-clause-unlinked : goal.returns-clause-unlinked
returns-clause-unlinked g c m =
    let w = g.M.Look.shown.image c.args.space.now in
    let loaded = c.load-len.ensures.word ∙ ap (λ (x : List ℕ). slice_index x 7) (c.store.ensures.image ∙ ap (λ (x : List ℕ). slice_set x c.args.place.link c.load-next.result) c.load-next.ensures.image) in
    let new = c.store-2.ensures.image ∙ ap (λ (x : List ℕ). slice_set x 7 (c.load-len.result - 1)) (c.load-len.ensures.image ∙ c.store.ensures.image ∙ ap (λ (x : List ℕ). slice_set x c.args.place.link c.load-next.result) c.load-next.ensures.image) in
    unlinked m (cut_of c.args.order m.block c.args.place.node c.args.place.link (link_after c.args.order 6 1 m.front) c.load-next.result c.load-len.result w (g.M.Look.shown.image c.store-2.new.self)
    m.node_is m.link_is (link_not_len c.args.order m.front) (omega (arith, link_in_region m, c.requires.sized)) (omega (arith, c.requires.sized)) c.load-next.ensures.word loaded new)

pub load-next-requires : goal.load-next-requires
load-next-requires g c =
    let m = c.requires.may in
    record { within = omega (arith, block_within m, m.node_is, c.requires.sized) }

pub store-requires-clause-within : goal.store-requires-clause-within
store-requires-clause-within g c =
    let m = c.requires.may in
    omega (arith, link_in_region m, m.link_is, ap length c.load-next.ensures.image, c.requires.sized)

pub overflow_sub-len : goal.overflow_sub-len
overflow_sub-len g c =
    let m = c.requires.may in
    let w = g.M.Look.shown.image c.args.space.now in
    let stays = len_stays w c.args.place.link c.load-next.result (link_not_len c.args.order m.front) m.link_is in
    let loaded = c.load-len.ensures.word ∙ ap (λ (x : List ℕ). slice_index x 7) (c.store.ensures.image ∙ ap (λ (x : List ℕ). slice_set x c.args.place.link c.load-next.result) c.load-next.ensures.image) in
    omega (arith, some_len m, stays, loaded)

pub returns-clause-sparing : goal.returns-clause-sparing
returns-clause-sparing g c =
    let shown = g.M.Look.shown in
    let m = c.requires.may in
    let start = c.args.space.now in
    let seen = c.load-next.new.self in
    let put = c.store.new.self in
    let loaded = c.load-len.new.self in
    let words = c.load-len.ensures.image ∙ c.store.ensures.image ∙ ap (λ (x : List ℕ). slice_set x c.args.place.link c.load-next.result) c.load-next.ensures.image in
    let long : length (shown.image loaded) ≡ length (shown.image start) = ap length words ∙ length-set (shown.image start) c.args.place.link c.load-next.result in
    let len : slice_index (shown.image loaded) 7 ≡ slice_index (shown.image start) 7 = ap (λ (x : List ℕ). slice_index x 7) words ∙ len_stays (shown.image start) c.args.place.link c.load-next.result (link_not_len c.args.order m.front) m.link_is in
    let none : IsSparing shown start start = λ told. omega arith in
    let zero = sparing_load shown start start seen c.load-next.ensures.image c.load-next.ensures.counts none in
    let one = sparing_more shown start seen put c.args.place.link c.load-next.result c.store.ensures.image (ap length c.load-next.ensures.image) (omega (arith, link_in_region m, m.link_is, c.requires.sized)) (ap (λ (x : List ℕ). slice_index x c.args.place.link) c.load-next.ensures.image)
    (λ e. link_changes m (e ∙ c.load-next.ensures.word)) c.store.ensures.counts zero in
    let two = sparing_load shown start put loaded c.load-len.ensures.image c.load-len.ensures.counts one in
    sparing_more shown start loaded c.store-2.new.self 7 (c.load-len.result - 1) c.store-2.ensures.image long (omega (arith, c.requires.sized)) len
    (λ e. absurd (omega (arith, e, len, some_len m, c.load-len.ensures.word, ap (λ (x : List ℕ). slice_index x 7) c.load-len.ensures.image))) c.store-2.ensures.counts two
