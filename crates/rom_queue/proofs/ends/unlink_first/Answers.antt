use Rattle.std.proofs.Common.{◌≡◌, ◌+◌, ◌-◌, length, slice_index, rules, sym, ◌∙◌, ap, subst, arith}
use Rattle.rom_model.specs.Blocks.{block_of}
use Rattle.rom_model.specs.Space.{IsSparing, differing}
use Rattle.rom_queue.proofs.Links.{no_loop, last_high}
use Rattle.rom_block.proofs.Apart.{sparing_more, sparing_load}
use Rattle.rom_queue.proofs.Unlinked.{HeadMoved, unlinked}
use Rattle.rom_queue.proofs.ends.unlink_first.Goals as goal

pub returns-clause-unlinked : goal.returns-clause-unlinked
returns-clause-unlinked g c q =
    let w = g.M.Look.shown.image c.args.space.now in
    let w' = g.M.Look.shown.image c.store.new.self in
    let next : c.load-next.result ≡ slice_index w (block_of c.args.order q.block + 1) = c.load-next.ensures.word ∙ ap (λ k. slice_index w (k + 1)) q.here in
    let moved : HeadMoved c.load-next.result w w' = record { head = search rules; none = search rules; tail = search rules; len = search rules; others = search rules } in
    unlinked c.args.order q.block w w' (subst (λ next. HeadMoved next w w') next moved) q.behind q.values q.queue

pub returns-clause-sparing : goal.returns-clause-sparing
returns-clause-sparing g c =
    let shown = g.M.Look.shown in
    let q = c.requires.queue in
    let start = c.args.space.now in
    let w = shown.image start in
    let seen = c.load-next.new.self in
    let moved = c.set_head.new.space in
    let loaded = c.load-len.new.self in
    let same = c.load-next.ensures.image in
    let next : c.load-next.result ≡ slice_index w (block_of c.args.order q.block + 1) = c.load-next.ensures.word ∙ ap (λ k. slice_index w (k + 1)) q.here in
    let head = c.set_head.ensures.sparing
    (λ e. no_loop c.args.order q.block w q.behind q.queue.chain.1 (sym next ∙ sym e ∙ ap (λ x. slice_index x 3) same ∙ q.queue.chain.0))
    (λ e. absurd (omega (arith, e, ap (λ x. slice_index x 4) same, q.queue.tail, last_high c.args.order q.block q.behind))) in
    let from_start : IsSparing shown start moved = λ told. omega (arith, head told, c.load-next.ensures.counts.stores_made told, ap (λ x. differing x (shown.image moved)) same) in
    let two = sparing_load shown start moved loaded c.load-len.ensures.image c.load-len.ensures.counts from_start in
    let len : slice_index (shown.image loaded) 5 ≡ slice_index w 5 = search rules in
    let long : length (shown.image loaded) ≡ length w = search rules in
    sparing_more shown start loaded c.store.new.self 5 (c.load-len.result - 1) c.store.ensures.image long (omega (arith, c.requires.sized)) len
    (λ e. absurd (omega (arith, e, len, q.queue.len, c.load-len.ensures.word, ap (λ x. slice_index x 5) c.load-len.ensures.image))) c.store.ensures.counts two
