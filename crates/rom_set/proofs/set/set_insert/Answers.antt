use Rattle.std.proofs.Common.{ℕ, ◌∷◌, ◌++◌, List, sym, ◌∙◌, subst}
use Rattle.rom_model.specs.State.{State}
use Rattle.rom_model.specs.Blocks.{AreWords}
use Rattle.rom_model.specs.Region.{Chains, element_blocks, taken_by, IsRegion}
use Rattle.rom_model.proofs.Room.{region_disjoint, full, not_full}
use Rattle.rom_set.specs.Set.{IsAddedToSet}
use Rattle.rom_set.proofs.Places.{region_set, same_words, found_contains}
use Rattle.rom_block.proofs.Apart.{sparing_then, sparing_looks, tree_apart}
use Rattle.rom_set.proofs.Taking.{new, may_link, became}
use Rattle.rom_set.proofs.set.set_insert.Given.{Over}
use Rattle.rom_set.proofs.set.set_insert.Goals as goal

pub find-place-requires-clause-set : goal.find-place-requires-clause-set
find-place-requires-clause-set g c = region_set c.requires.region.contents.1

pub returns-then-place-clause-contents : goal.returns-then-place-clause-contents
returns-then-place-clause-contents g c s k held = sym (found_contains held.1.shape.set (c.find-place.ensures.is held.0.set s.members held.1.shape.set)) ∙ c.if-place.true

pub take-requires-clause-blocks : goal.take-requires-clause-blocks
take-requires-clause-blocks g c =
    let n = c.args.order in
    let r = c.requires.region in
    let taken = taken_by n (element_blocks n r.contents.0) in
    (taken, region_disjoint c.requires.order.least r.contents.1, subst (λ (v : List ℕ). AreWords n taken v) (sym c.find-place.ensures.ends.image) r.contents.1.shape.tree)

pub returns-in_default-clause-contents : goal.returns-in_default-clause-contents
returns-in_default-clause-contents g c s k held =
    let le = c.requires.order.least in
    let stands = c.find-place.ensures.is held.0.set s.members held.1.shape.set in
    let x = same_words c.find-place.ensures.ends.image held.1 stands in (
      sym (found_contains held.1.shape.set stands) ∙ c.if-place.false,
      full le x.0 (c.in_default.ensures.taken _ (region_disjoint le x.0) x.0.shape.tree),
    )

pub link_node-requires-clause-may : goal.link_node-requires-clause-may
link_node-requires-clause-may g c =
    let le = c.requires.order.least in
    let r = c.requires.region in
    let is = r.contents.1 in
    let x = same_words c.find-place.ensures.ends.image is (c.find-place.ensures.is r.contents.0.set r.state.members is.shape.set) in
    may_link le x.0 x.1 c.if-place.false c.in-Some.ensures.others (c.in-Some.ensures.taken _ (region_disjoint le x.0) x.0.shape.tree)

added : (g : Over) (c : goal.After-link_node g) (p : Chains) (s : State) (k : ℕ) → IsRegion c.args.order (g.M.Look.shown.image c.args.space.now) p s k
    → IsAddedToSet c.args.order (g.M.Look.shown.image c.args.space.now) p s k c.args.key (g.M.Look.shown.image c.link_node.new.space)
added g c p s k is =
    let le = c.requires.order.least in
    let same = c.find-place.ensures.ends.image in
    let x = same_words same is (c.find-place.ensures.is p.set s.members is.shape.set) in
    let only = c.in-Some.ensures.others in
    let takes = c.in-Some.ensures.taken _ (region_disjoint le x.0) x.0.shape.tree in
    let w2 = g.M.Look.shown.image c.link_node.new.space in
    subst (λ (v : List ℕ). IsAddedToSet c.args.order v p s k c.args.key w2) same
    (became le x.0 x.1 c.if-place.false only takes w2 (c.link_node.ensures.linked (may_link le x.0 x.1 c.if-place.false only takes)))

pub returns-clause-contents : goal.returns-clause-contents
returns-clause-contents g c s k held =
    let le = c.requires.order.least in
    let stands = c.find-place.ensures.is held.0.set s.members held.1.shape.set in
    let y = same_words c.find-place.ensures.ends.image held.1 stands in
    let x = added g c held.0 s k held.1 in (
      sym (found_contains held.1.shape.set stands) ∙ c.if-place.false,
      not_full le y.0 _ (new le y.0 y.1 c.if-place.false c.in-Some.ensures.others (c.in-Some.ensures.taken _ (region_disjoint le y.0) y.0.shape.tree)),
      (let p = held.0 in record p { set = x.front ++ x.block ∷ x.back }, x.becomes.region),
    )

pub returns-clause-others : goal.returns-clause-others
returns-clause-others g c p s k is = added g c p s k is

pub returns-clause-region : goal.returns-clause-region
returns-clause-region g c =
    let r = c.requires.region in
    record { state = _; count = r.count; contents = (returns-clause-contents g c r.state r.count r.contents).2 }

pub returns-clause-sparing : goal.returns-clause-sparing
returns-clause-sparing g c =
    let shown = g.M.Look.shown in
    let le = c.requires.order.least in
    let r = c.requires.region in
    let x = same_words c.find-place.ensures.ends.image r.contents.1 (c.find-place.ensures.is r.contents.0.set r.state.members r.contents.1.shape.set) in
    let only = c.in-Some.ensures.others in
    let linked = c.link_node.ensures.linked (may_link le x.0 x.1 c.if-place.false only (c.in-Some.ensures.taken _ (region_disjoint le x.0) x.0.shape.tree)) in
    let walked = c.find-place.new.space in
    let after = c.link_node.new.space in
    sparing_looks shown c.args.space.now walked after c.find-place.ensures.ends
    (sparing_then shown walked _ after only.as_long linked.others.as_long (tree_apart c.args.order _ _ _ _ only linked.tree) c.in-Some.ensures.sparing c.link_node.ensures.sparing)
