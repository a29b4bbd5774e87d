use Rattle.std.proofs.Common.{List, ℕ, ◌++◌, arith, refl, sym, ap, subst}
use Rattle.rom_blob_region.specs.State.{BlobState, some_block, taken_with}
use Rattle.rom_blob_region.specs.Region.{BlobContents}
use Rattle.rom_blob_region.proofs.Keeping.{held}
use Rattle.rom_blob_region.proofs.Giving.{may_give_body, given_back}
use Rattle.rom_blob_region.proofs.Setting.{place_inside, stored_in, has_body, told_full, told_no_unit, told_new, with_body_still, node_least, node_most, size_small, new_key}
use Rattle.rom_blob_region.proofs.set.add_key.Goals as goal

-- no block for the bytes
pub returns-in_default-clause-done : goal.returns-in_default-clause-done
returns-in_default-clause-done g c s k held_now =
    let o = c.requires.order in
    let n = c.args.order in
    let is = held_now.1 in
    let w = g.M.Look.shown.image c.args.space.now in
    let none = c.in_default.ensures.taken (taken_with (held n w held_now.0)) is.apart.disjoint is.tree in
    let told = sym (told_full is c.args.bytes.now o.least c.args.key (sym c.len-len.ensures.many) none) in
    (ap (λ a. a.1) told, subst (λ (x : BlobState). BlobContents n (g.M.Look.shown.image c.take_body.new.space) x k) (ap (λ a. a.0) told) (subst (λ (v : List ℕ). BlobContents n v s k) (sym c.in_default.ensures.none.image) held_now))

-- no unit for the node
pub give_body-requires-clause-holds : goal.give_body-requires-clause-holds
give_body-requires-clause-holds g c some =
    let o = c.requires.order in
    let is = c.requires.region.2.1 in
    let r = has_body is o (sym c.len-len.ensures.many) c.in-Some.ensures.taken in
    may_give_body o.least (with_body_still is o r c.in-Some.ensures.others c.in_default-take.ensures.none.image) c.len-len.result c.in-Some.body refl refl some

pub returns-in_default-take-clause-done : goal.returns-in_default-take-clause-done
returns-in_default-take-clause-done g c s k held_now =
    let o = c.requires.order in
    let is = held_now.1 in
    let r = has_body is o (sym c.len-len.ensures.many) c.in-Some.ensures.taken in
    let none = c.in_default-take.ensures.taken (taken_with (some_block r.body ++ held c.args.order (g.M.Look.shown.image c.args.space.now) held_now.0)) r.apart.disjoint r.tree in
    let told = sym (told_no_unit is c.args.bytes.now o.least c.args.key (sym c.len-len.ensures.many) r none) in
    let region = given_back o.least (with_body_still is o r c.in-Some.ensures.others c.in_default-take.ensures.none.image) (g.M.Look.shown.image c.give_body.new.space) c.give_body.ensures.given c.give_body.ensures.others in
    (ap (λ a. a.1) told, subst (λ (x : BlobState). BlobContents c.args.order (g.M.Look.shown.image c.give_body.new.space) x k) (ap (λ a. a.0) told) (held_now.0, region))

-- both are there
pub store-requires-clause-within : goal.store-requires-clause-within
store-requires-clause-within g c =
    let o = c.requires.order in
    let is = c.requires.region.2.1 in
    let r = has_body is o (sym c.len-len.ensures.many) c.in-Some.ensures.taken in
    let at = place_inside c.args.order c.len-len.result c.in-Some.body r.body o c.len-len.ensures.within r.placed r.bare in
    omega (arith, at, c.len-len.ensures.many, is.as_long, c.in-Some.ensures.others.as_long, c.in-Some-take.ensures.others.as_long)

pub store-requires-clause-small : goal.store-requires-clause-small
store-requires-clause-small g c =
    let o = c.requires.order in
    let is = c.requires.region.2.1 in
    let r = has_body is o (sym c.len-len.ensures.many) c.in-Some.ensures.taken in
    omega (arith, place_inside c.args.order c.len-len.result c.in-Some.body r.body o c.len-len.ensures.within r.placed r.bare)

pub link_first-requires-clause-least : goal.link_first-requires-clause-least
link_first-requires-clause-least g c =
    let o = c.requires.order in
    let is = c.requires.region.2.1 in
    let r = has_body is o (sym c.len-len.ensures.many) c.in-Some.ensures.taken in
    let takes = c.in-Some-take.ensures.taken (taken_with (some_block r.body ++ held c.args.order (g.M.Look.shown.image c.args.space.now) c.requires.region.2.0)) r.apart.disjoint r.tree in
    node_least is o r c.in-Some.ensures.others takes

pub link_first-requires-clause-most : goal.link_first-requires-clause-most
link_first-requires-clause-most g c =
    let o = c.requires.order in
    let is = c.requires.region.2.1 in
    let r = has_body is o (sym c.len-len.ensures.many) c.in-Some.ensures.taken in
    let takes = c.in-Some-take.ensures.taken (taken_with (some_block r.body ++ held c.args.order (g.M.Look.shown.image c.args.space.now) c.requires.region.2.0)) r.apart.disjoint r.tree in
    node_most is o r c.in-Some.ensures.others takes

pub link_first-requires-clause-len : goal.link_first-requires-clause-len
link_first-requires-clause-len g c =
    let o = c.requires.order in
    let is = c.requires.region.2.1 in
    let r = has_body is o (sym c.len-len.ensures.many) c.in-Some.ensures.taken in
    let takes = c.in-Some-take.ensures.taken (taken_with (some_block r.body ++ held c.args.order (g.M.Look.shown.image c.args.space.now) c.requires.region.2.0)) r.apart.disjoint r.tree in
    let stored = stored_in (sym c.len-len.ensures.many) c.store.ensures.bytes c.store.ensures.ends c.store.ensures.others in
    size_small is o r c.in-Some.ensures.others takes c.len-len.ensures.within c.in-Some-take.ensures.others stored

pub returns-clause-done : goal.returns-clause-done
returns-clause-done g c s k held_now =
    let o = c.requires.order in
    let is = held_now.1 in
    let r = has_body is o (sym c.len-len.ensures.many) c.in-Some.ensures.taken in
    let takes = c.in-Some-take.ensures.taken (taken_with (some_block r.body ++ held c.args.order (g.M.Look.shown.image c.args.space.now) held_now.0)) r.apart.disjoint r.tree in
    let stored = stored_in (sym c.len-len.ensures.many) c.store.ensures.bytes c.store.ensures.ends c.store.ensures.others in
    let told = sym (told_new is c.args.bytes.now o.least c.args.key (sym c.len-len.ensures.many) r takes.node takes.lowest) in
    let region = new_key is o r c.in-Some.ensures.others takes c.len-len.ensures.within c.in-Some-take.ensures.others stored c.args.key (c.requires.absent s k held_now) c.link_first.ensures.linked in
    (ap (λ a. a.1) told, subst (λ (x : BlobState). BlobContents c.args.order (g.M.Look.shown.image c.link_first.new.space) x k) (ap (λ a. a.0) told) region)
