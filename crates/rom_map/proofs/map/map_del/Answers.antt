use Rattle.std.proofs.Common.{◌≡◌, ◌≢◌, ◌+◌, ◌-◌, ◌*◌, ◌^◌, ℕ, List, ◌++◌, slice_index, length, arith, le_refl, sym, ◌∙◌, ap, subst}
use Rattle.std.specs.Prelude.{Some}
use Rattle.std.specs.FinMap as finite
use Rattle.std.proofs.lemmas.Bool.{not-true, not-false}
use Rattle.rom_model.specs.Walks.{keys_under, end_loads}
use Rattle.rom_model.specs.Region.{bucket_of, Contents}
use Rattle.rom_model.proofs.Nodes.{pow_positive}
use Rattle.rom_model.proofs.Looks.{looks_more, costs_most, costs_then, room_left}
use Rattle.rom_bucket.specs.Link.{IsNodeUnlinked}
use Rattle.rom_bucket.proofs.Sparing.{sparing_after, sparing_load, range_last}
use Rattle.rom_bucket.proofs.Entries.{remove_absent}
use Rattle.rom_bucket.proofs.Keys.{holds_bucket}
use Rattle.rom_bucket.proofs.Finding.{own_within}
use Rattle.rom_bucket.proofs.Places.{before_node, link_high, link_inside}
use Rattle.rom_bucket.proofs.Removed.{link_differs, size_some}
use Rattle.rom_map.specs.Map.{get_loads, with_pairs, with_bucket}
use Rattle.rom_map.proofs.Keyed.{map_keys}
use Rattle.rom_map.proofs.Finding.{looked, image_same, long, no_pair, no_value, sooner, node, value, inside, small}
use Rattle.rom_map.proofs.Removing.{may_give, deleted}
use Rattle.rom_map.proofs.map.map_del.Goals as goal

pub find_rising-sought-requires-clause-sized : goal.find_rising-sought-requires-clause-sized
find_rising-sought-requires-clause-sized g c = c.requires.region.contents.1.shape.as_long

pub find_rising-sought-requires-clause-bucket : goal.find_rising-sought-requires-clause-bucket
find_rising-sought-requires-clause-bucket g c = holds_bucket (map_keys c.requires.region.contents.1) (bucket_of c.args.order c.args.key) (own_within c.args.key c.requires.order)

-- the key is not there
pub returns-then-not-sought-clause-was : goal.returns-then-not-sought-clause-was
returns-then-not-sought-clause-was g c s k held = sym (no_value c.requires.order held.1 c.find_rising-sought.ensures (not-true c.find_rising-sought.result.found c.if-not-sought.true))

pub returns-then-not-sought-clause-contents : goal.returns-then-not-sought-clause-contents
returns-then-not-sought-clause-contents g c s k held =
    let none = no_pair c.requires.order held.1 c.find_rising-sought.ensures (not-true c.find_rising-sought.result.found c.if-not-sought.true) in
    let same = image_same c.requires.order held.1 c.find_rising-sought.ensures in
    subst (λ pairs. Contents c.args.order (g.M.Look.shown.image c.find_rising-sought.new.space) (with_pairs s pairs) k) (remove_absent s.pairs c.args.key none) (subst (λ v. Contents c.args.order v s k) (sym same) held)

pub returns-then-not-sought-clause-region : goal.returns-then-not-sought-clause-region
returns-then-not-sought-clause-region g c =
    let r = c.requires.region in
    record { state = with_pairs r.state (finite.remove r.state.pairs c.args.key); count = r.count; contents = returns-then-not-sought-clause-contents g c r.state r.count r.contents }

pub returns-then-not-sought-clause-none : goal.returns-then-not-sought-clause-none
returns-then-not-sought-clause-none g c s k held = looked c.requires.order held.1 c.find_rising-sought.ensures

pub returns-then-not-sought-clause-costs : goal.returns-then-not-sought-clause-costs
returns-then-not-sought-clause-costs g c s k held = costs_most _ _ (omega arith) (omega arith) (looked c.requires.order held.1 c.find_rising-sought.ensures).costs

-- the key is there
pub overflow_add-place : goal.overflow_add-place
overflow_add-place g c = omega (arith, small c.requires.order c.requires.region.contents.1 c.find_rising-sought.ensures (not-false c.find_rising-sought.result.found c.if-not-sought.false))

pub load-was-requires : goal.load-was-requires
load-was-requires g c = record { within = omega (arith, inside c.requires.order c.requires.region.contents.1 c.find_rising-sought.ensures (not-false c.find_rising-sought.result.found c.if-not-sought.false)) }

pub unlink_node-requires-clause-link : goal.unlink_node-requires-clause-link
unlink_node-requires-clause-link g c =
    let o = c.requires.order in
    let is = c.requires.region.contents.1 in
    omega (arith, link_inside o.least (map_keys is) (own_within c.args.key o) (before_node (node o is c.find_rising-sought.ensures (not-false c.find_rising-sought.result.found c.if-not-sought.false))), ap length c.load-was.ensures.image, long o is c.find_rising-sought.ensures)

pub unlink_node-requires-clause-node : goal.unlink_node-requires-clause-node
unlink_node-requires-clause-node g c = omega (arith, inside c.requires.order c.requires.region.contents.1 c.find_rising-sought.ensures (not-false c.find_rising-sought.result.found c.if-not-sought.false), ap length c.load-was.ensures.image)

pub unlink_node-requires-clause-small : goal.unlink_node-requires-clause-small
unlink_node-requires-clause-small g c = omega (arith, small c.requires.order c.requires.region.contents.1 c.find_rising-sought.ensures (not-false c.find_rising-sought.result.found c.if-not-sought.false))

pub unlink_node-requires-clause-apart : goal.unlink_node-requires-clause-apart
unlink_node-requires-clause-apart g c e =
    let o = c.requires.order in
    let is = c.requires.region.contents.1 in
    absurd (omega (arith, e, link_high o.least (map_keys is) (own_within c.args.key o) (before_node (node o is c.find_rising-sought.ensures (not-false c.find_rising-sought.result.found c.if-not-sought.false)))))

pub unlink_node-requires-clause-long : goal.unlink_node-requires-clause-long
unlink_node-requires-clause-long g c = omega (arith, long c.requires.order c.requires.region.contents.1 c.find_rising-sought.ensures, ap length c.load-was.ensures.image)

pub unlink_node-requires-clause-len : goal.unlink_node-requires-clause-len
unlink_node-requires-clause-len g c =
    let o = c.requires.order in
    let is = c.requires.region.contents.1 in
    let some = size_some o.least (omega arith) (map_keys is) (own_within c.args.key o) (node o is c.find_rising-sought.ensures (not-false c.find_rising-sought.result.found c.if-not-sought.false)) in
    omega (arith, some, ap (λ (v : List ℕ). slice_index v 9) (c.load-was.ensures.image ∙ image_same o is c.find_rising-sought.ensures))

pub unlink_node-requires-clause-room : goal.unlink_node-requires-clause-room
unlink_node-requires-clause-room g c =
    let look = looks_more g.M.Look.shown _ _ (le_refl (get_loads c.args.order c.requires.region.state.pairs c.args.key + 1)) (looked c.requires.order c.requires.region.contents.1 c.find_rising-sought.ensures) c.load-was.ensures.image c.load-was.ensures.counts in
    room_left 2 g.met.M.Look.limit_counts (omega arith) c.requires.room look.costs

pub give-requires-clause-sized : goal.give-requires-clause-sized
give-requires-clause-sized g c = c.unlink_node.ensures.unlinked.as_long ∙ ap length c.load-was.ensures.image ∙ long c.requires.order c.requires.region.contents.1 c.find_rising-sought.ensures

pub give-requires-clause-taken : goal.give-requires-clause-taken
give-requires-clause-taken g c =
    let o = c.requires.order in
    let is = c.requires.region.contents.1 in
    let same = c.load-was.ensures.image ∙ image_same o is c.find_rising-sought.ensures in
    may_give o.least is (own_within c.args.key o) (node o is c.find_rising-sought.ensures (not-false c.find_rising-sought.result.found c.if-not-sought.false)) (subst (λ v. IsNodeUnlinked 9 c.find_rising-sought.result.place v (g.M.Look.shown.image c.unlink_node.new.space)) same c.unlink_node.ensures.unlinked)

pub give-requires-clause-room : goal.give-requires-clause-room
give-requires-clause-room g c =
    let loads = get_loads c.args.order c.requires.region.state.pairs c.args.key in
    let look = looks_more g.M.Look.shown _ _ (le_refl (loads + 1)) (looked c.requires.order c.requires.region.contents.1 c.find_rising-sought.ensures) c.load-was.ensures.image c.load-was.ensures.counts in
    room_left (c.args.order + 1) g.met.M.Look.limit_counts (omega arith) c.requires.room (costs_then (loads + 3) 2 (omega arith) (omega arith) look.costs c.unlink_node.ensures.costs)

pub returns-clause-others : goal.returns-clause-others
returns-clause-others g c p s k is =
    let o = c.requires.order in
    let same = c.load-was.ensures.image ∙ image_same o is c.find_rising-sought.ensures in
    deleted o.least is (own_within c.args.key o) (node o is c.find_rising-sought.ensures (not-false c.find_rising-sought.result.found c.if-not-sought.false)) (subst (λ v. IsNodeUnlinked 9 c.find_rising-sought.result.place v (g.M.Look.shown.image c.unlink_node.new.space)) same c.unlink_node.ensures.unlinked)
    (g.M.Look.shown.image c.give.new.space) c.give.ensures.given c.give.ensures.others

pub returns-clause-was : goal.returns-clause-was
returns-clause-was g c s k held =
    let v = value c.requires.order held.1 c.find_rising-sought.ensures (not-false c.find_rising-sought.result.found c.if-not-sought.false) in
    let word : c.load-was.result ≡ slice_index (g.M.Look.shown.image c.args.space.now) (c.find_rising-sought.result.place.node + 1) = c.load-was.ensures.word ∙ ap (λ v. slice_index v (c.find_rising-sought.result.place.node + 1)) (image_same c.requires.order held.1 c.find_rising-sought.ensures) in
    ap Some word ∙ sym v

pub returns-clause-contents : goal.returns-clause-contents
returns-clause-contents g c s k held =
    let x = returns-clause-others g c held.0 s k held.1 in
    (with_bucket held.0 (bucket_of c.args.order c.args.key) (x.front ++ x.back), x.becomes.region)

pub returns-clause-region : goal.returns-clause-region
returns-clause-region g c =
    let r = c.requires.region in
    record { state = with_pairs r.state (finite.remove r.state.pairs c.args.key); count = r.count; contents = returns-clause-contents g c r.state r.count r.contents }

pub returns-clause-costs : goal.returns-clause-costs
returns-clause-costs g c s k held =
    let soon = 2 * keys_under c.args.order s.pairs c.args.key + end_loads c.args.order s.pairs c.args.key in
    let look = looks_more g.M.Look.shown _ _ (le_refl (soon + 1)) (sooner c.requires.order held.1 c.find_rising-sought.ensures (not-false c.find_rising-sought.result.found c.if-not-sought.false)) c.load-was.ensures.image c.load-was.ensures.counts in
    costs_then _ _ (omega arith) (omega arith) (costs_then (soon + 3) 2 (omega arith) (omega arith) look.costs c.unlink_node.ensures.costs) c.give.ensures.costs

pub returns-then-not-sought-clause-sparing : goal.returns-then-not-sought-clause-sparing
returns-then-not-sought-clause-sparing g c told = omega (arith, (looked c.requires.order c.requires.region.contents.1 c.find_rising-sought.ensures).costs.most_stores told)

pub returns-clause-sparing : goal.returns-clause-sparing
returns-clause-sparing g c =
    let o = c.requires.order in
    let n = c.args.order in
    let is = c.requires.region.contents.1 in
    let t = node o is c.find_rising-sought.ensures (not-false c.find_rising-sought.result.found c.if-not-sought.false) in
    let un = c.unlink_node.ensures.unlinked in
    let high = link_high o.least (map_keys is) (own_within c.args.key o) (before_node t) in
    let same = c.load-was.ensures.image ∙ image_same o is c.find_rising-sought.ensures in
    let differs = subst (λ (v : List ℕ). slice_index v c.find_rising-sought.result.place.link ≢ slice_index v (c.find_rising-sought.result.place.node + 2)) (sym same) (link_differs o.least (omega arith) (map_keys is) (own_within c.args.key o) t) in
    sparing_after g.M.Look.shown _ _ _ (looked o is c.find_rising-sought.ensures)
    (sparing_load g.M.Look.shown _ _ _ c.load-was.ensures.image c.load-was.ensures.counts
    (range_last g.M.Look.shown 17 (2 * 2 ^ n - 1) _ _ _ un.as_long c.give.ensures.others
    (λ k ge lt. un.others k (λ e. absurd (omega (arith, e, lt, high, pow_positive n))) (λ e. absurd (omega (arith, e, ge))))
    (c.unlink_node.ensures.sparing differs) c.give.ensures.sparing))
