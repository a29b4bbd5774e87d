use Rattle.std.proofs.Common.{◌≡◌, ⊎_elim, inl, inr, ℕ, ◌++◌, Bool, true, false, not, List, refl, sym, ◌∙◌, subst}
use Rattle.rom_model.specs.State.{State}
use Rattle.rom_model.specs.Region.{Chains, IsRegion}
use Rattle.rom_set.specs.Set.{IsRemoved}
use Rattle.rom_set.proofs.Places.{region_set, same_words, found_contains}
use Rattle.rom_block.proofs.Apart.{sparing_then, sparing_looks, tree_apart}
use Rattle.rom_set.proofs.Giving.{may_unlink, may_give, given_back}
use Rattle.rom_set.proofs.set.set_remove.Given.{Over}
use Rattle.rom_set.proofs.set.set_remove.Goals as goal

is_false : (b : Bool) → not b ≡ true → b ≡ false
is_false false test = refl
is_false true test = absurd (let same : false ≡ true = test in cc)

is_true : (b : Bool) → not b ≡ false → b ≡ true
is_true true test = refl
is_true false test = absurd (let same : true ≡ false = test in cc)

pub find-place-requires-clause-set : goal.find-place-requires-clause-set
find-place-requires-clause-set g c = region_set c.requires.region.contents.1

pub returns-then-not-place-clause-contents : goal.returns-then-not-place-clause-contents
returns-then-not-place-clause-contents g c s k held = sym (found_contains held.1.shape.set (c.find-place.ensures.is held.0.set s.members held.1.shape.set)) ∙ is_false c.find-place.result.found c.if-not-place.true

pub unlink_node-requires-clause-may : goal.unlink_node-requires-clause-may
unlink_node-requires-clause-may g c =
    let r = c.requires.region in
    let x = same_words c.find-place.ensures.ends.image r.contents.1 (c.find-place.ensures.is r.contents.0.set r.state.members r.contents.1.shape.set) in
    may_unlink c.requires.order.least x.0 x.1 (is_true c.find-place.result.found c.if-not-place.false)

pub give-requires-clause-sized : goal.give-requires-clause-sized
give-requires-clause-sized g c =
    let r = c.requires.region in
    let x = same_words c.find-place.ensures.ends.image r.contents.1 (c.find-place.ensures.is r.contents.0.set r.state.members r.contents.1.shape.set) in
    (c.unlink_node.ensures.unlinked (may_unlink c.requires.order.least x.0 x.1 (is_true c.find-place.result.found c.if-not-place.false))).others.as_long ∙ x.0.shape.as_long

pub give-requires-clause-taken : goal.give-requires-clause-taken
give-requires-clause-taken g c =
    let le = c.requires.order.least in
    let r = c.requires.region in
    let found = is_true c.find-place.result.found c.if-not-place.false in
    let x = same_words c.find-place.ensures.ends.image r.contents.1 (c.find-place.ensures.is r.contents.0.set r.state.members r.contents.1.shape.set) in
    may_give le x.0 x.1 found (c.unlink_node.ensures.unlinked (may_unlink le x.0 x.1 found))

-- the node was given back, for a region
removed : (g : Over) (c : goal.After-give g) (p : Chains) (s : State) (k : ℕ) → IsRegion c.args.order (g.M.Look.shown.image c.args.space.now) p s k
    → IsRemoved c.args.order (g.M.Look.shown.image c.args.space.now) p s k c.args.key (g.M.Look.shown.image c.give.new.space)
removed g c p s k is =
    let le = c.requires.order.least in
    let same = c.find-place.ensures.ends.image in
    let found = is_true c.find-place.result.found c.if-not-place.false in
    let x = same_words same is (c.find-place.ensures.is p.set s.members is.shape.set) in
    let w2 = g.M.Look.shown.image c.give.new.space in
    subst (λ (v : List ℕ). IsRemoved c.args.order v p s k c.args.key w2) same
    (given_back le x.0 x.1 found (c.unlink_node.ensures.unlinked (may_unlink le x.0 x.1 found)) w2 c.give.ensures.given c.give.ensures.others)

pub returns-clause-contents : goal.returns-clause-contents
returns-clause-contents g c s k held =
    let x = removed g c held.0 s k held.1 in (
      sym (found_contains held.1.shape.set (c.find-place.ensures.is held.0.set s.members held.1.shape.set)) ∙ is_true c.find-place.result.found c.if-not-place.false,
      (let p = held.0 in record p { set = x.front ++ x.back }, x.becomes.region),
    )

pub returns-clause-others : goal.returns-clause-others
returns-clause-others g c p s k is = removed g c p s k is

pub returns-clause-region : goal.returns-clause-region
returns-clause-region g c =
    let r = c.requires.region in
    record { state = _; count = r.count; contents = (returns-clause-contents g c r.state r.count r.contents).1 }

pub returns-clause-sparing : goal.returns-clause-sparing
returns-clause-sparing g c =
    let shown = g.M.Look.shown in
    let r = c.requires.region in
    let x = same_words c.find-place.ensures.ends.image r.contents.1 (c.find-place.ensures.is r.contents.0.set r.state.members r.contents.1.shape.set) in
    let unlinked = c.unlink_node.ensures.unlinked (may_unlink c.requires.order.least x.0 x.1 (is_true c.find-place.result.found c.if-not-place.false)) in
    let walked = c.find-place.new.space in
    let after = c.give.new.space in
    sparing_looks shown c.args.space.now walked after c.find-place.ensures.ends
    (sparing_then shown walked c.unlink_node.new.space after unlinked.others.as_long c.give.ensures.others.as_long (λ k. ⊎_elim inr inl (tree_apart c.args.order _ _ _ _ c.give.ensures.others unlinked.tree k)) c.unlink_node.ensures.sparing c.give.ensures.sparing)
