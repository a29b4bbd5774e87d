use Rattle.std.proofs.Common.{List, ℕ, length, get_or, sym, ◌∙◌, ap, arith}
use Rattle.rom_block.proofs.Apart.{sparing_store}
use Rattle.rom_bucket.proofs.Sparing.{sparing_load}
use Rattle.rom_map.proofs.entry.replace_word.Goals as goal

pub returns-then-was-word-clause-sparing : goal.returns-then-was-word-clause-sparing
returns-then-was-word-clause-sparing g c =
    let mid = c.load-was.new.self in
    let load = c.load-was.ensures in
    sparing_load g.M.Look.shown c.args.space.now mid c.store.new.self load.image load.counts
    (sparing_store g.M.Look.shown mid c.store.new.self c.args.at c.args.word c.store.ensures.image (omega (arith, c.requires.within, ap length load.image))
    (λ e. c.if-was-word.true (load.word ∙ sym (ap (λ (w : List ℕ). get_or w c.args.at 0) load.image) ∙ e)) c.store.ensures.counts)
