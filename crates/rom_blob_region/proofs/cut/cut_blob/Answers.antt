use Rattle.std.proofs.Common.{◌≡◌, ◌+◌, ◌*◌, ℕ, List, length, slice_index, arith, sym, ap, subst, ◌∙◌}
use Rattle.rom_model.specs.Region.{bucket_of}
use Rattle.rom_model.proofs.Looks.{looks_more, costs_then, room_left, stores_most}
use Rattle.rom_bucket.specs.Buckets.{keys_beside}
use Rattle.rom_bucket.specs.Link.{IsNodeUnlinked}
use Rattle.rom_bucket.proofs.Finding.{own_within}
use Rattle.rom_bucket.proofs.Keys.{holds_bucket}
use Rattle.rom_bucket.proofs.Places.{before_node, link_inside, link_high}
use Rattle.rom_bucket.proofs.Removed.{size_some}
use Rattle.rom_blob_region.specs.Packed.{long_at}
use Rattle.rom_blob_region.specs.State.{BlobState, cut_blob}
use Rattle.rom_blob_region.specs.Region.{BlobContents, len_at, data_at, blob_at}
use Rattle.rom_blob_region.specs.Calls.{BodyGiven}
use Rattle.rom_blob_region.specs.declared.call.BlobReply.TheVariants as reply
use Rattle.rom_blob_region.proofs.Fetching.{looked, stays, gone, spot, has, inside, small, len_is, data_is}
use Rattle.rom_blob_region.proofs.Giving.{may_give_body, given_back}
use Rattle.rom_blob_region.proofs.Cutting.{less, may_give, node_given}
use Rattle.rom_blob_region.proofs.cut.cut_blob.Goals as goal

pub find-place-requires-clause-sized : goal.find-place-requires-clause-sized
find-place-requires-clause-sized g c = c.requires.region.2.1.as_long

pub find-place-requires-clause-bucket : goal.find-place-requires-clause-bucket
find-place-requires-clause-bucket g c = holds_bucket c.requires.region.2.1.keys (bucket_of c.args.order c.args.key) (own_within c.args.key c.requires.order)

-- the key is not there
pub returns-then-place-eq0-clause-done : goal.returns-then-place-eq0-clause-done
returns-then-place-eq0-clause-done g c s k held =
    let none = gone c.requires.order held.1 c.find-place.ensures c.if-place-eq0.true in
    let same = stays c.requires.order held.1 c.find-place.ensures in
    let after = sym (ap (λ o. cut_blob s c.args.key o) none) in
    (ap (λ a. a.1) after, subst (λ (x : BlobState). BlobContents c.args.order (g.M.Look.shown.image c.find-place.new.space) x k) (ap (λ a. a.0) after) (subst (λ (v : List ℕ). BlobContents c.args.order v s k) (sym same) held))

pub returns-then-place-eq0-clause-stores : goal.returns-then-place-eq0-clause-stores
returns-then-place-eq0-clause-stores g c = stores_most 36 (omega arith) (looked c.requires.order c.requires.region.2.1 c.find-place.ensures).costs

-- the key is there
pub overflow_add-place : goal.overflow_add-place
overflow_add-place g c = omega (arith, small c.requires.order c.requires.region.2.1 c.find-place.ensures c.if-place-eq0.false)

pub load-len-requires : goal.load-len-requires
load-len-requires g c = record { within = omega (arith, inside c.requires.order c.requires.region.2.1 c.find-place.ensures c.if-place-eq0.false) }

pub overflow_add-place-2 : goal.overflow_add-place-2
overflow_add-place-2 g c = omega (arith, small c.requires.order c.requires.region.2.1 c.find-place.ensures c.if-place-eq0.false)

pub load-body-requires : goal.load-body-requires
load-body-requires g c = record { within = omega (arith, inside c.requires.order c.requires.region.2.1 c.find-place.ensures c.if-place-eq0.false, ap length c.load-len.ensures.image) }

pub unlink_node-requires-clause-link : goal.unlink_node-requires-clause-link
unlink_node-requires-clause-link g c =
    let o = c.requires.order in
    let is = c.requires.region.2.1 in
    omega (arith, link_inside o.least is.keys (own_within c.args.key o) (before_node (spot o is c.find-place.ensures c.if-place-eq0.false)), ap length (c.load-body.ensures.image ∙ c.load-len.ensures.image ∙ stays o is c.find-place.ensures), is.as_long)

pub unlink_node-requires-clause-node : goal.unlink_node-requires-clause-node
unlink_node-requires-clause-node g c = omega (arith, inside c.requires.order c.requires.region.2.1 c.find-place.ensures c.if-place-eq0.false, ap length (c.load-body.ensures.image ∙ c.load-len.ensures.image))

pub unlink_node-requires-clause-small : goal.unlink_node-requires-clause-small
unlink_node-requires-clause-small g c = omega (arith, small c.requires.order c.requires.region.2.1 c.find-place.ensures c.if-place-eq0.false)

pub unlink_node-requires-clause-apart : goal.unlink_node-requires-clause-apart
unlink_node-requires-clause-apart g c e =
    let o = c.requires.order in
    let is = c.requires.region.2.1 in
    absurd (omega (arith, e, link_high o.least is.keys (own_within c.args.key o) (before_node (spot o is c.find-place.ensures c.if-place-eq0.false))))

pub unlink_node-requires-clause-long : goal.unlink_node-requires-clause-long
unlink_node-requires-clause-long g c =
    let o = c.requires.order in
    let is = c.requires.region.2.1 in
    omega (arith, ap length (c.load-body.ensures.image ∙ c.load-len.ensures.image ∙ stays o is c.find-place.ensures), is.as_long)

pub unlink_node-requires-clause-len : goal.unlink_node-requires-clause-len
unlink_node-requires-clause-len g c =
    let o = c.requires.order in
    let is = c.requires.region.2.1 in
    let some = size_some o.least (omega arith) is.keys (own_within c.args.key o) (spot o is c.find-place.ensures c.if-place-eq0.false) in
    omega (arith, some, ap (λ (v : List ℕ). slice_index v 3) (c.load-body.ensures.image ∙ c.load-len.ensures.image ∙ stays o is c.find-place.ensures))

-- the costs of the walk and of both loads
pub unlink_node-requires-clause-room : goal.unlink_node-requires-clause-room
unlink_node-requires-clause-room g c =
    let beside = keys_beside c.args.order c.requires.region.0 c.args.key in
    let one = looks_more g.M.Look.shown (1 + 2 * beside) (2 + 2 * beside) (omega arith) (looked c.requires.order c.requires.region.2.1 c.find-place.ensures) c.load-len.ensures.image c.load-len.ensures.counts in
    let two = looks_more g.M.Look.shown (2 + 2 * beside) (3 + 2 * beside) (omega arith) one c.load-body.ensures.image c.load-body.ensures.counts in
    room_left 2 g.met.M.Look.limit_counts (omega arith) c.requires.room two.costs

pub give-requires-clause-sized : goal.give-requires-clause-sized
give-requires-clause-sized g c =
    let o = c.requires.order in
    let is = c.requires.region.2.1 in
    c.unlink_node.ensures.unlinked.as_long ∙ ap length (c.load-body.ensures.image ∙ c.load-len.ensures.image ∙ stays o is c.find-place.ensures) ∙ is.as_long

pub give-requires-clause-taken : goal.give-requires-clause-taken
give-requires-clause-taken g c =
    let o = c.requires.order in
    let is = c.requires.region.2.1 in
    let same = c.load-body.ensures.image ∙ c.load-len.ensures.image ∙ stays o is c.find-place.ensures in
    let un = subst (λ (v : List ℕ). IsNodeUnlinked 3 c.find-place.result v (g.M.Look.shown.image c.unlink_node.new.space)) same c.unlink_node.ensures.unlinked in
    may_give o is (spot o is c.find-place.ensures c.if-place-eq0.false) un

pub give-requires-clause-room : goal.give-requires-clause-room
give-requires-clause-room g c =
    let beside = keys_beside c.args.order c.requires.region.0 c.args.key in
    let one = looks_more g.M.Look.shown (1 + 2 * beside) (2 + 2 * beside) (omega arith) (looked c.requires.order c.requires.region.2.1 c.find-place.ensures) c.load-len.ensures.image c.load-len.ensures.counts in
    let two = looks_more g.M.Look.shown (2 + 2 * beside) (3 + 2 * beside) (omega arith) one c.load-body.ensures.image c.load-body.ensures.counts in
    room_left (c.args.order + 1) g.met.M.Look.limit_counts (omega arith) c.requires.room (costs_then (5 + 2 * beside) 2 (omega arith) (omega arith) two.costs c.unlink_node.ensures.costs)

pub give_body-requires-clause-sized : goal.give_body-requires-clause-sized
give_body-requires-clause-sized g c =
    let o = c.requires.order in
    let is = c.requires.region.2.1 in
    c.give.ensures.others.as_long ∙ c.unlink_node.ensures.unlinked.as_long ∙ ap length (c.load-body.ensures.image ∙ c.load-len.ensures.image ∙ stays o is c.find-place.ensures) ∙ is.as_long

pub give_body-requires-clause-holds : goal.give_body-requires-clause-holds
give_body-requires-clause-holds g c some =
    let o = c.requires.order in
    let n = c.args.order in
    let is = c.requires.region.2.1 in
    let found = c.find-place.ensures in
    let same = c.load-body.ensures.image ∙ c.load-len.ensures.image ∙ stays o is found in
    let un = subst (λ (v : List ℕ). IsNodeUnlinked 3 c.find-place.result v (g.M.Look.shown.image c.unlink_node.new.space)) same c.unlink_node.ensures.unlinked in
    let t = spot o is found c.if-place-eq0.false in
    let len = c.load-len.ensures.word ∙ len_is o is found c.if-place-eq0.false in
    let at = c.load-body.ensures.word ∙ ap (λ (v : List ℕ). slice_index v (c.find-place.result.node + 3)) c.load-len.ensures.image ∙ data_is o is found c.if-place-eq0.false in
    may_give_body o.least (node_given o is t un (g.M.Look.shown.image c.give.new.space) c.give.ensures.given c.give.ensures.others) c.load-len.result c.load-body.result len at some

pub give_body-requires-clause-room : goal.give_body-requires-clause-room
give_body-requires-clause-room g c =
    let beside = keys_beside c.args.order c.requires.region.0 c.args.key in
    let one = looks_more g.M.Look.shown (1 + 2 * beside) (2 + 2 * beside) (omega arith) (looked c.requires.order c.requires.region.2.1 c.find-place.ensures) c.load-len.ensures.image c.load-len.ensures.counts in
    let two = looks_more g.M.Look.shown (2 + 2 * beside) (3 + 2 * beside) (omega arith) one c.load-body.ensures.image c.load-body.ensures.counts in
    let three = costs_then (5 + 2 * beside) 2 (omega arith) (omega arith) two.costs c.unlink_node.ensures.costs in
    room_left 17 g.met.M.Look.limit_counts (omega arith) c.requires.room (costs_then (5 + 2 * beside + 2 * c.args.order) (3 + c.args.order) (omega arith) (omega arith) three c.give.ensures.costs)

pub returns-clause-done : goal.returns-clause-done
returns-clause-done g c s k held =
    let o = c.requires.order in
    let n = c.args.order in
    let is = held.1 in
    let found = c.find-place.ensures in
    let w = g.M.Look.shown.image c.args.space.now in
    let new = g.M.Look.shown.image c.give_body.new.space in
    let same = c.load-body.ensures.image ∙ c.load-len.ensures.image ∙ stays o is found in
    let un = subst (λ (v : List ℕ). IsNodeUnlinked 3 c.find-place.result v (g.M.Look.shown.image c.unlink_node.new.space)) same c.unlink_node.ensures.unlinked in
    let t = spot o is found c.if-place-eq0.false in
    let len = c.load-len.ensures.word ∙ len_is o is found c.if-place-eq0.false in
    let at = c.load-body.ensures.word ∙ ap (λ (v : List ℕ). slice_index v (c.find-place.result.node + 3)) c.load-len.ensures.image ∙ data_is o is found c.if-place-eq0.false in
    let given = subst (λ m. BodyGiven n m (data_at n w t.block) (g.M.Look.shown.image c.give.new.space) new) len (subst (λ a. BodyGiven n c.load-len.result a (g.M.Look.shown.image c.give.new.space) new) at c.give_body.ensures.given) in
    let region = given_back o.least (node_given o is t un (g.M.Look.shown.image c.give.new.space) c.give.ensures.given c.give.ensures.others) new given c.give_body.ensures.others in
    let after = sym (ap (λ o. cut_blob s c.args.key o) (has o is found c.if-place-eq0.false)) in
    let told : c.load-len.result ≡ length (blob_at n w t.block).bytes = len ∙ sym (long_at w (data_at n w t.block) (len_at n w t.block)) in (
      ap (λ m. reply.Was m) told ∙ ap (λ a. a.1) after,
      subst (λ (x : BlobState). BlobContents n new x k) (ap (λ a. a.0) after) (less o is t un, region),
    )

pub returns-clause-stores : goal.returns-clause-stores
returns-clause-stores g c =
    let beside = keys_beside c.args.order c.requires.region.0 c.args.key in
    let one = looks_more g.M.Look.shown (1 + 2 * beside) (2 + 2 * beside) (omega arith) (looked c.requires.order c.requires.region.2.1 c.find-place.ensures) c.load-len.ensures.image c.load-len.ensures.counts in
    let two = looks_more g.M.Look.shown (2 + 2 * beside) (3 + 2 * beside) (omega arith) one c.load-body.ensures.image c.load-body.ensures.counts in
    let three = costs_then (5 + 2 * beside) 2 (omega arith) (omega arith) two.costs c.unlink_node.ensures.costs in
    let four = costs_then (5 + 2 * beside + 2 * c.args.order) (3 + c.args.order) (omega arith) (omega arith) three c.give.ensures.costs in
    stores_most 36 (omega arith) (costs_then (37 + 2 * beside + 2 * c.args.order) (20 + c.args.order) (omega arith) (omega arith) four c.give_body.ensures.costs)
