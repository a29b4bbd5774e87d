use Rattle.std.proofs.Common.{◌≡◌, ◌≢◌, ◌-◌, List, ℕ, length, get_or, sym, ◌∙◌, ap, arith, length-set}
use Rattle.rom_block.proofs.Apart.{sparing_store}
use Rattle.rom_block.proofs.Sparing.{stays_at}
use Rattle.rom_bucket.proofs.Sparing.{sparing_load, then_size}
use Rattle.rom_bucket.proofs.link.unlink_node.Goals as goal

pub returns-clause-sparing : goal.returns-clause-sparing
returns-clause-sparing g c differs =
    let size = c.args.size in
    let first = c.args.space.now in
    let at = c.args.place.link in
    let mid = c.load-next.new.self in
    let linked = c.store.new.self in
    let load = c.load-next.ensures in
    let next = c.load-next.result in
    let long = ap length c.store.ensures.image ∙ length-set (g.M.Look.shown.image mid) at next ∙ ap length load.image in
    let same : get_or (g.M.Look.shown.image linked) size 0 ≡ get_or (g.M.Look.shown.image first) size 0 = stays_at (g.M.Look.shown.image mid) (g.M.Look.shown.image linked) at next size c.store.ensures.image (λ e. c.requires.apart (sym e)) ∙ ap (λ (w : List ℕ). get_or w size 0) load.image in
    let other : get_or (g.M.Look.shown.image linked) size 0 ≢ c.load-len.result - 1 = λ e. absurd (omega (arith, e, same, c.load-len.ensures.word, c.requires.len)) in
    then_size g.M.Look.shown size first linked c.load-len.new.self c.store-2.new.self (c.load-len.result - 1) long same (omega (arith, long, c.requires.long)) other
    c.load-len.ensures.image c.load-len.ensures.counts c.store-2.ensures.image c.store-2.ensures.counts
    (sparing_load g.M.Look.shown first mid linked load.image load.counts
    (sparing_store g.M.Look.shown mid linked at next c.store.ensures.image (omega (arith, c.requires.link, ap length load.image))
    (λ e. differs (sym (ap (λ (w : List ℕ). get_or w at 0) load.image) ∙ e ∙ load.word)) c.store.ensures.counts))
