use Rattle.std.proofs.Common.{inl, ◌+◌, ◌-◌, ◌*◌, ◌^◌, ℕ, List, ◌∷◌, ◌++◌, slice_index, arith, sym, ◌∙◌, ap, subst}
use Rattle.std.specs.Prelude.{Some}
use Rattle.rom_model.specs.State.{written}
use Rattle.rom_model.specs.Region.{bucket_of, element_blocks, taken_by, IsRegion}
use Rattle.rom_model.proofs.Nodes.{pow_positive, pow_small}
use Rattle.rom_model.proofs.Looks.{looks_then, costs_then, room_left}
use Rattle.rom_model.proofs.Room.{region_disjoint, full}
use Rattle.rom_bucket.proofs.Keys.{holds_bucket}
use Rattle.rom_bucket.proofs.Finding.{own_within}
use Rattle.rom_bucket.proofs.Sparing.{sparing_after, sparing_range}
use Rattle.rom_map.specs.Map.{get_loads, with_entry, with_pairs, with_bucket, IsAddedToMap}
use Rattle.rom_map.proofs.Keyed.{map_keys}
use Rattle.rom_map.proofs.Finding.{still, still_stopped, still_no_key, looked, image_same, long, no_value, sooner, node, value, inside, small}
use Rattle.rom_map.proofs.Adding.{had_room, at_least, at_most, size_small, place_high, place_inside, place_outside, place_differs, added}
use Rattle.rom_map.proofs.Replaced.{replaced}
use Rattle.rom_map.proofs.map.map_put.Goals as goal

pub find_rising-sought-requires-clause-sized : goal.find_rising-sought-requires-clause-sized
find_rising-sought-requires-clause-sized g c = c.requires.region.contents.1.shape.as_long

pub find_rising-sought-requires-clause-bucket : goal.find_rising-sought-requires-clause-bucket
find_rising-sought-requires-clause-bucket g c = holds_bucket (map_keys c.requires.region.contents.1) (bucket_of c.args.order c.args.key) (own_within c.args.key c.requires.order)

-- the key is there
pub replace_entry-requires-clause-within : goal.replace_entry-requires-clause-within
replace_entry-requires-clause-within g c = inside c.requires.order c.requires.region.contents.1 c.find_rising-sought.ensures c.if-sought.true

pub replace_entry-requires-clause-small : goal.replace_entry-requires-clause-small
replace_entry-requires-clause-small g c = omega (arith, small c.requires.order c.requires.region.contents.1 c.find_rising-sought.ensures c.if-sought.true)

pub replace_entry-requires-clause-room : goal.replace_entry-requires-clause-room
replace_entry-requires-clause-room g c = room_left 2 g.met.M.Look.limit_counts (omega arith) c.requires.room (looked c.requires.order c.requires.region.contents.1 c.find_rising-sought.ensures).costs

pub returns-then-sought-clause-others : goal.returns-then-sought-clause-others
returns-then-sought-clause-others g c p s k is =
    let o = c.requires.order in
    let place = c.find_rising-sought.result.place in
    replaced o.least is c.args.key c.args.value c.args.stamp (omega (arith, c.requires.stamp, is.shape.root.count_is)) (own_within c.args.key o) place (node o is c.find_rising-sought.ensures c.if-sought.true)
    (c.replace_entry.ensures.image ∙ ap (λ (v : List ℕ). with_entry v place.node c.args.value c.args.stamp) (image_same o is c.find_rising-sought.ensures))

pub returns-then-sought-clause-contents : goal.returns-then-sought-clause-contents
returns-then-sought-clause-contents g c s k held =
    let o = c.requires.order in
    let word = c.replace_entry.ensures.was ∙ ap (λ (v : List ℕ). slice_index v (c.find_rising-sought.result.place.node + 1)) (image_same o held.1 c.find_rising-sought.ensures) in
    (value o held.1 c.find_rising-sought.ensures c.if-sought.true ∙ ap Some (sym word), (held.0, (returns-then-sought-clause-others g c held.0 s k held.1).region))

pub returns-then-sought-clause-region : goal.returns-then-sought-clause-region
returns-then-sought-clause-region g c =
    let r = c.requires.region in
    record { state = with_pairs r.state (written r.state.pairs c.args.stamp c.args.key c.args.value); count = r.count; contents = (returns-then-sought-clause-contents g c r.state r.count r.contents).1 }

pub returns-then-sought-clause-each : goal.returns-then-sought-clause-each
returns-then-sought-clause-each g c s k held = costs_then _ _ (omega arith) (omega arith) (sooner c.requires.order held.1 c.find_rising-sought.ensures c.if-sought.true).costs c.replace_entry.ensures.costs

pub returns-then-sought-clause-costs : goal.returns-then-sought-clause-costs
returns-then-sought-clause-costs g c s k held = costs_then _ _ (omega arith) (omega arith) (looked c.requires.order held.1 c.find_rising-sought.ensures).costs c.replace_entry.ensures.costs

pub returns-then-sought-clause-sparing : goal.returns-then-sought-clause-sparing
returns-then-sought-clause-sparing g c = sparing_after g.M.Look.shown _ _ _ (looked c.requires.order c.requires.region.contents.1 c.find_rising-sought.ensures) c.replace_entry.ensures.sparing

-- the key is not there
pub take-requires-clause-sized : goal.take-requires-clause-sized
take-requires-clause-sized g c = long c.requires.order c.requires.region.contents.1 c.find_rising-sought.ensures

pub take-requires-clause-blocks : goal.take-requires-clause-blocks
take-requires-clause-blocks g c =
    let r = c.requires.region in
    let p = r.contents.0 in
    let same = image_same c.requires.order r.contents.1 c.find_rising-sought.ensures in
    let mid = subst (λ v. IsRegion c.args.order v p r.state r.count) (sym same) r.contents.1 in
    (taken_by c.args.order (element_blocks c.args.order p), region_disjoint c.requires.order.least mid, mid.shape.tree)

pub take-requires-clause-room : goal.take-requires-clause-room
take-requires-clause-room g c = room_left (c.args.order + 1) g.met.M.Look.limit_counts (omega (arith, c.requires.order.most)) c.requires.room (looked c.requires.order c.requires.region.contents.1 c.find_rising-sought.ensures).costs

pub returns-in_default-clause-contents : goal.returns-in_default-clause-contents
returns-in_default-clause-contents g c s k held =
    let o = c.requires.order in
    let same = image_same o held.1 c.find_rising-sought.ensures in
    let mid = subst (λ v. IsRegion c.args.order v held.0 s k) (sym same) held.1 in
    (no_value o held.1 c.find_rising-sought.ensures c.if-sought.false, full o.least mid (c.in_default.ensures.taken (taken_by c.args.order (element_blocks c.args.order held.0)) (region_disjoint o.least mid) mid.shape.tree))

pub returns-in_default-clause-region : goal.returns-in_default-clause-region
returns-in_default-clause-region g c =
    let r = c.requires.region in
    let same = c.in_default.ensures.none.image ∙ image_same c.requires.order r.contents.1 c.find_rising-sought.ensures in
    record { state = r.state; count = r.count; contents = (r.contents.0, subst (λ v. IsRegion c.args.order v r.contents.0 r.state r.count) (sym same) r.contents.1) }

pub returns-in_default-clause-each : goal.returns-in_default-clause-each
returns-in_default-clause-each g c s k held = looks_then _ (omega arith) (looked c.requires.order held.1 c.find_rising-sought.ensures) c.in_default.ensures.none

pub returns-in_default-clause-costs : goal.returns-in_default-clause-costs
returns-in_default-clause-costs g c s k held = costs_then _ _ (omega arith) (omega arith) (looked c.requires.order held.1 c.find_rising-sought.ensures).costs c.in_default.ensures.none.costs

pub returns-in_default-clause-sparing : goal.returns-in_default-clause-sparing
returns-in_default-clause-sparing g c = sparing_after g.M.Look.shown _ _ _ (looked c.requires.order c.requires.region.contents.1 c.find_rising-sought.ensures) c.in_default.ensures.sparing

pub link_at-requires-clause-link : goal.link_at-requires-clause-link
link_at-requires-clause-link g c =
    let o = c.requires.order in
    let is = c.requires.region.contents.1 in
    let e = c.find_rising-sought.ensures in
    omega (
      arith,
      place_inside o.least (still o is e) c.in-Some.ensures.others c.in-Some.ensures.taken (own_within c.args.key o) (still_no_key o is e c.if-sought.false) (still_stopped o is e),
      c.in-Some.ensures.others.as_long,
      long o is e,
    )

pub link_at-requires-clause-outside : goal.link_at-requires-clause-outside
link_at-requires-clause-outside g c =
    let o = c.requires.order in
    let is = c.requires.region.contents.1 in
    let e = c.find_rising-sought.ensures in
    place_outside o.least (still o is e) c.in-Some.ensures.others c.in-Some.ensures.taken (own_within c.args.key o) (still_no_key o is e c.if-sought.false) (still_stopped o is e)

pub link_at-requires-clause-apart : goal.link_at-requires-clause-apart
link_at-requires-clause-apart g c same =
    let o = c.requires.order in
    let is = c.requires.region.contents.1 in
    let e = c.find_rising-sought.ensures in
    absurd (omega (arith, same, place_high o.least (still o is e) c.in-Some.ensures.others c.in-Some.ensures.taken (own_within c.args.key o) (still_no_key o is e c.if-sought.false) (still_stopped o is e)))

pub link_at-requires-clause-root : goal.link_at-requires-clause-root
link_at-requires-clause-root g c =
    let o = c.requires.order in
    omega (arith, at_least o.least (still o c.requires.region.contents.1 c.find_rising-sought.ensures) c.in-Some.ensures.others c.in-Some.ensures.taken)

pub link_at-requires-clause-within : goal.link_at-requires-clause-within
link_at-requires-clause-within g c =
    let o = c.requires.order in
    let is = c.requires.region.contents.1 in
    let e = c.find_rising-sought.ensures in
    omega (arith, at_most o.least (still o is e) c.in-Some.ensures.others c.in-Some.ensures.taken, c.in-Some.ensures.others.as_long, long o is e)

pub link_at-requires-clause-small : goal.link_at-requires-clause-small
link_at-requires-clause-small g c =
    let o = c.requires.order in
    omega (arith, at_most o.least (still o c.requires.region.contents.1 c.find_rising-sought.ensures) c.in-Some.ensures.others c.in-Some.ensures.taken, pow_small c.args.order o.most)

pub link_at-requires-clause-len : goal.link_at-requires-clause-len
link_at-requires-clause-len g c =
    let o = c.requires.order in
    size_small o.least (still o c.requires.region.contents.1 c.find_rising-sought.ensures) c.in-Some.ensures.others c.in-Some.ensures.taken o.most

pub link_at-requires-clause-room : goal.link_at-requires-clause-room
link_at-requires-clause-room g c =
    let look = looked c.requires.order c.requires.region.contents.1 c.find_rising-sought.ensures in
    room_left 6 g.met.M.Look.limit_counts (omega (arith, c.requires.order.most)) c.requires.room (costs_then (get_loads c.args.order c.requires.region.state.pairs c.args.key + (3 * c.args.order + 1)) (c.args.order + 1) (omega arith) (omega arith) look.costs c.in-Some.ensures.costs)

pub returns-clause-others : goal.returns-clause-others
returns-clause-others g c p s k is =
    let o = c.requires.order in
    let e = c.find_rising-sought.ensures in
    let new = g.M.Look.shown.image c.link_at.new.space in
    subst (λ v. IsAddedToMap c.args.order v p s k c.args.key c.args.value c.args.stamp new) (image_same o is e)
    (added o.least (still o is e) c.in-Some.ensures.others c.in-Some.ensures.taken (own_within c.args.key o) (still_no_key o is e c.if-sought.false) (still_stopped o is e) c.if-sought.false c.args.value c.args.stamp
    (omega (arith, c.requires.stamp, is.shape.root.count_is)) new c.link_at.ensures.linked)

pub returns-clause-contents : goal.returns-clause-contents
returns-clause-contents g c s k held =
    let o = c.requires.order in
    let e = c.find_rising-sought.ensures in
    let x = returns-clause-others g c held.0 s k held.1 in
    let i = bucket_of c.args.order c.args.key in
    (no_value o held.1 e c.if-sought.false, had_room o.least (still o held.1 e) c.in-Some.ensures.others c.in-Some.ensures.taken, (with_bucket held.0 i (x.front ++ x.block ∷ x.back), x.becomes.region))

pub returns-clause-region : goal.returns-clause-region
returns-clause-region g c =
    let r = c.requires.region in
    record { state = with_pairs r.state (written r.state.pairs c.args.stamp c.args.key c.args.value); count = r.count; contents = (returns-clause-contents g c r.state r.count r.contents).2 }

pub returns-clause-each : goal.returns-clause-each
returns-clause-each g c s k held =
    let look = looked c.requires.order held.1 c.find_rising-sought.ensures in
    costs_then _ _ (omega arith) (omega arith) (costs_then (get_loads c.args.order s.pairs c.args.key + (3 * c.args.order + 1)) (c.args.order + 1) (omega arith) (omega arith) look.costs c.in-Some.ensures.costs) c.link_at.ensures.costs

pub returns-clause-costs : goal.returns-clause-costs
returns-clause-costs g c s k held = returns-clause-each g c s k held

pub returns-clause-sparing : goal.returns-clause-sparing
returns-clause-sparing g c =
    let o = c.requires.order in
    let is = c.requires.region.contents.1 in
    let e = c.find_rising-sought.ensures in
    let linked = c.link_at.ensures.linked in
    let late = at_least o.least (still o is e) c.in-Some.ensures.others c.in-Some.ensures.taken in
    let high = place_high o.least (still o is e) c.in-Some.ensures.others c.in-Some.ensures.taken (own_within c.args.key o) (still_no_key o is e c.if-sought.false) (still_stopped o is e) in
    let differs = place_differs o.least (still o is e) c.in-Some.ensures.others c.in-Some.ensures.taken (own_within c.args.key o) (still_no_key o is e c.if-sought.false) (still_stopped o is e) in
    sparing_after g.M.Look.shown _ _ _ (looked o is e)
    (sparing_range g.M.Look.shown 17 (2 * 2 ^ c.args.order - 1) _ _ _ c.in-Some.ensures.others linked.as_long
    (λ k ge lt. linked.others k (inl (omega (arith, lt, late, pow_positive c.args.order))) (λ same. absurd (omega (arith, same, lt, high, pow_positive c.args.order))) (λ same. absurd (omega (arith, same, ge))))
    c.in-Some.ensures.sparing (c.link_at.ensures.sparing differs))
