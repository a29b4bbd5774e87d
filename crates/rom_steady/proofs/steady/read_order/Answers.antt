use Rattle.std.proofs.Common.{◌≡◌, arith, ⊎_elim, ap, ◌∙◌}
use Rattle.rom_header.specs.Layout.{words_needed, MAGIC}
use Rattle.rom_steady.proofs.Reading.{stood_kept}
use Rattle.rom_steady.proofs.steady.read_order.Goals.{then-read-ne-MAGIC-via-then-read-ne-MAGIC, then-read-ne-MAGIC-via-else-read-ne-MAGIC+then-read-ne-HEADER_VERSION, in_default-via-in-Some+else-need-have, in_default-via-in_default}
use Rattle.rom_steady.proofs.steady.read_order.Goals as goal

pub returns-then-have-lt8-clause-order : goal.returns-then-have-lt8-clause-order
returns-then-have-lt8-clause-order g c order stages told kept = absurd (omega (arith, (kept.moment 0).heap.long, g.met.W.Watched.words_fit c.args.words.now 0 told))

pub returns-then-read-ne-MAGIC-clause-order : goal.returns-then-read-ne-MAGIC-clause-order
returns-then-read-ne-MAGIC-clause-order g c order stages told kept =
    let first = stood_kept g.W.Watched.shown _ _ _ _ MAGIC c.read_words.ensures.later (c.in_ok-read_words.ensures.read told 0 (omega arith)) (λ t. (kept.moment t).heap.header.magic) in
    let second = stood_kept g.W.Watched.shown _ _ _ _ 1 c.read_words.ensures.later (c.in_ok-read_words.ensures.read told 1 (omega arith)) (λ t. (kept.moment t).heap.header.version) in
    elim c.then-read-ne-MAGIC.branch [ then-read-ne-MAGIC-via-then-read-ne-MAGIC w ↦ absurd (w.if-read-ne-MAGIC.true first) | then-read-ne-MAGIC-via-else-read-ne-MAGIC+then-read-ne-HEADER_VERSION w ↦ absurd (w.if-read-ne-HEADER_VERSION.true second) ]

pub returns-in_default-clause-order : goal.returns-in_default-clause-order
returns-in_default-clause-order g c order stages told kept =
    let third = stood_kept g.W.Watched.shown _ _ _ _ order c.read_words.ensures.later (c.in_ok-read_words.ensures.read told 2 (omega arith)) (λ t. (kept.moment t).heap.header.order_is) in
    elim c.in_default.branch [
      | in_default-via-in-Some+else-need-have w ↦
          let is : words_needed w.in-Some.geometry ≡ words_needed order = ap (λ n. words_needed n) (w.in-Some.ensures.some.0 ∙ third) in
          absurd (omega (arith, w.if-need-have.false, w.need.ensures, is, c.len-have.ensures, (kept.moment 0).heap.long, g.met.W.Watched.words_fit c.args.words.now 0 told))
      | in_default-via-in_default w ↦
          let fits = (kept.moment 0).heap.header.fits in
          absurd (⊎_elim (λ low. omega (arith, low, third, fits)) (λ high. omega (arith, high, third, fits)) w.in_default.ensures.none)
    ]
