use Rattle.std.proofs.Common.{◌≡◌, ◌≢◌, ⊎_elim, ◌+◌, ℕ, List, length, get_or, slice_index, slice_set, arith, sym, ◌∙◌, ap, length-set}
use Rattle.rom_block.proofs.Apart.{sparing_store}
use Rattle.rom_block.proofs.Sparing.{stays_at}
use Rattle.rom_bucket.proofs.Sparing.{sparing_range, then_size}
use Rattle.rom_bucket.proofs.Linking.{linked}
use Rattle.rom_bucket.proofs.link.link_at.Goals as goal

pub returns-clause-linked : goal.returns-clause-linked
returns-clause-linked g c =
    let r = c.requires in
    let f = c.fill_node.ensures in
    let size = c.args.size in
    linked size c.args.at c.args.place c.args.node c.load-len.result (g.M.Look.shown.image c.args.space.now) (g.M.Look.shown.image c.fill_node.new.space) (g.M.Look.shown.image c.store-2.new.self)
    r.link r.outside r.apart r.root r.within f.others
    (c.store-2.ensures.image ∙ ap (λ (x : List ℕ). slice_set x size (c.load-len.result + 1)) (c.load-len.ensures.image ∙ c.store.ensures.image))
    f.first f.second f.third f.fourth (c.load-len.ensures.word ∙ ap (λ (x : List ℕ). slice_index x size) c.store.ensures.image)

-- the link led elsewhere, and the size is another
pub returns-clause-sparing : goal.returns-clause-sparing
returns-clause-sparing g c differs =
    let r = c.requires in
    let f = c.fill_node.ensures in
    let at = c.args.at in
    let size = c.args.size in
    let link = c.args.place.link in
    let first = c.args.space.now in
    let filled = c.fill_node.new.space in
    let linked = c.store.new.self in
    let long = ap length c.store.ensures.image ∙ length-set (g.M.Look.shown.image filled) link at ∙ f.others.as_long in
    let same : get_or (g.M.Look.shown.image linked) size 0 ≡ get_or (g.M.Look.shown.image first) size 0 = stays_at (g.M.Look.shown.image filled) (g.M.Look.shown.image linked) link at size c.store.ensures.image (λ e. r.apart (sym e)) ∙ f.others.before size r.root in
    let other : get_or (g.M.Look.shown.image linked) size 0 ≢ c.load-len.result + 1 = λ e. absurd (omega (arith, e, c.load-len.ensures.word)) in
    let was : get_or (g.M.Look.shown.image filled) link 0 ≡ get_or (g.M.Look.shown.image first) link 0 = ⊎_elim (λ less. f.others.before link less) (λ ge. f.others.behind link ge) r.outside in
    then_size g.M.Look.shown size first linked c.load-len.new.self c.store-2.new.self (c.load-len.result + 1) long same (omega (arith, long, r.root, r.within)) other
    c.load-len.ensures.image c.load-len.ensures.counts c.store-2.ensures.image c.store-2.ensures.counts
    (sparing_range g.M.Look.shown at 4 first filled linked f.others (ap length c.store.ensures.image ∙ length-set (g.M.Look.shown.image filled) link at)
    (λ k ge less. stays_at (g.M.Look.shown.image filled) (g.M.Look.shown.image linked) link at k c.store.ensures.image (λ e. ⊎_elim (λ before. absurd (omega (arith, e, before, ge))) (λ behind. absurd (omega (arith, e, behind, less))) r.outside)) f.sparing
    (sparing_store g.M.Look.shown filled linked link at c.store.ensures.image (omega (arith, r.link, f.others.as_long)) (λ e. differs (sym was ∙ e)) c.store.ensures.counts))
