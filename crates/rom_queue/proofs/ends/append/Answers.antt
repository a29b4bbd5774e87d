use Rattle.std.proofs.Common.{◌≡◌, ℕ, List, length, slice_index, arith, rules, sym, ◌∙◌, ap, subst}
use Rattle.rom_model.specs.Space.{ChangesOnly}
use Rattle.rom_model.proofs.Nodes.{pow_small}
use Rattle.rom_block.proofs.Apart.{sparing_then, sparing_looks}
use Rattle.rom_queue.proofs.Links.{tail_small, last_zero, other_tail}
use Rattle.rom_queue.proofs.Appended.{stored_two, appended, link_fits, stays_beside, filled_apart}
use Rattle.rom_queue.proofs.ends.append.Goals as goal

pub last_link-last-requires-clause-small : goal.last_link-last-requires-clause-small
last_link-last-requires-clause-small g c =
    let q = c.requires.queue in
    omega (arith, tail_small c.args.order (g.M.Look.shown.image c.args.space.now) q.blocks q.values q.queue q.are.within, pow_small c.args.order c.requires.most)

pub link_last-requires-clause-within : goal.link_last-requires-clause-within
link_last-requires-clause-within g c =
    let q = c.requires.queue in
    let long : length (g.M.Look.shown.image c.fill_node.new.space) ≡ length (g.M.Look.shown.image c.args.space.now) = search rules in
    omega (arith, (link_fits q).within, c.last_link-last.ensures.is q.blocks q.values q.queue, long)

pub link_last-requires-clause-apart : goal.link_last-requires-clause-apart
link_last-requires-clause-apart g c e =
    let q = c.requires.queue in
    (link_fits q).not_tail (sym (c.last_link-last.ensures.is q.blocks q.values q.queue) ∙ e)

pub link_last-requires-clause-apart_too : goal.link_last-requires-clause-apart_too
link_last-requires-clause-apart_too g c e =
    let q = c.requires.queue in
    (link_fits q).not_len (sym (c.last_link-last.ensures.is q.blocks q.values q.queue) ∙ e)

pub returns-clause-appended : goal.returns-clause-appended
returns-clause-appended g c q =
    let w = g.M.Look.shown.image c.args.space.now in
    let f = g.M.Look.shown.image c.fill_node.new.space in
    let a = c.fill_node.ensures in
    let filled : ChangesOnly c.args.at 4 w f = subst (λ (v : List ℕ). ChangesOnly c.args.at 4 v f) c.last_link-last.ensures.looks.image a.others in
    appended q (stored_two q (c.last_link-last.ensures.is q.blocks q.values q.queue) a.first a.second a.third a.fourth filled c.link_last.ensures.linked)

pub returns-clause-sparing : goal.returns-clause-sparing
returns-clause-sparing g c =
    let shown = g.M.Look.shown in
    let q = c.requires.queue in
    let w = shown.image c.args.space.now in
    let looked = c.last_link-last.new.space in
    let filled = c.fill_node.new.space in
    let after = c.link_last.new.space in
    let a = c.fill_node.ensures in
    let l = c.link_last.ensures.linked in
    let link_is = c.last_link-last.ensures.is q.blocks q.values q.queue in
    let only : ChangesOnly c.args.at 4 w (shown.image filled) = subst (λ (v : List ℕ). ChangesOnly c.args.at 4 v (shown.image filled)) c.last_link-last.ensures.looks.image a.others in
    let fits = link_fits q in
    let zero : slice_index (shown.image filled) c.last_link-last.result ≡ 0 = stays_beside q (shown.image filled) only c.last_link-last.result (λ inside. fits.outside (omega (arith, inside.0, link_is), omega (arith, inside.1, link_is)))
    ∙ ap (λ k. slice_index w k) link_is ∙ last_zero c.args.order 3 1 w q.blocks q.queue.chain in
    let tail : slice_index (shown.image filled) 4 ≡ slice_index w 4 = only.before 4 (omega (arith, q.here)) in
    let linking = c.link_last.ensures.sparing (λ e. absurd (omega (arith, e, zero, q.here))) (λ e. other_tail c.args.order q.block q.blocks q.absent (sym q.queue.tail ∙ sym tail ∙ e ∙ q.here)) in
    sparing_looks shown c.args.space.now looked after c.last_link-last.ensures.looks
    (sparing_then shown looked filled after a.others.as_long l.as_long (filled_apart q c.last_link-last.result link_is a.others l) a.sparing linking)
