use Rattle.std.proofs.Common.{◌≡◌, ◌+◌, ◌-◌, ◌*◌, ◌^◌, ◌⊎◌, ◌≤◌, true, false, ℕ, List, length, slice_index, arith, sym, ap, subst, ◌∙◌}
use Rattle.rom_model.specs.Space.{ChangesOnly}
use Rattle.rom_model.specs.Blocks.{AreWords}
use Rattle.rom_model.proofs.Nodes.{pow_small}
use Rattle.rom_blob_region.specs.Bytes.{words_for}
use Rattle.rom_blob_region.specs.Packed.{long_at}
use Rattle.rom_blob_region.specs.State.{BlobState, taken_with, set_again}
use Rattle.rom_blob_region.specs.Region.{BlobContents, len_at, data_at, blob_at}
use Rattle.rom_blob_region.specs.Calls.{IsFilled, BodyTaken, BodyGiven, stay_there}
use Rattle.rom_blob_region.specs.declared.call.BlobReply.TheVariants as reply
use Rattle.rom_blob_region.proofs.Keeping.{held}
use Rattle.rom_blob_region.proofs.Giving.{may_give_body, given_back}
use Rattle.rom_blob_region.proofs.Reserving.{reserved, no_room}
use Rattle.rom_blob_region.proofs.Setting.{place_inside}
use Rattle.rom_blob_region.proofs.Replacing.{kept_beside, kept_inside, kept_bytes, moved_beside, moved_bytes, staying, told_kept, told_moved, told_was}
use Rattle.rom_blob_region.proofs.set.replace_bytes.Goals as goal

pub overflow_add-place : goal.overflow_add-place
overflow_add-place g c =
    let is = c.requires.region.4 in
    let t = c.requires.region.5 in
    omega (arith, t.node_is, t.within, is.as_long, pow_small c.args.order c.requires.order.most)

pub load-was-requires : goal.load-was-requires
load-was-requires g c =
    let is = c.requires.region.4 in
    let t = c.requires.region.5 in
    record { within = omega (arith, t.node_is, t.within, is.as_long) }

pub overflow_add-place-2 : goal.overflow_add-place-2
overflow_add-place-2 g c =
    let is = c.requires.region.4 in
    let t = c.requires.region.5 in
    omega (arith, t.node_is, t.within, is.as_long, pow_small c.args.order c.requires.order.most)

pub load-old-requires : goal.load-old-requires
load-old-requires g c =
    let is = c.requires.region.4 in
    let t = c.requires.region.5 in
    record { within = omega (arith, t.node_is, t.within, is.as_long, ap length c.load-was.ensures.image) }

-- the bytes stay in their block
pub fill_key-requires-clause-node : goal.fill_key-requires-clause-node
fill_key-requires-clause-node g c =
    let is = c.requires.region.4 in
    let t = c.requires.region.5 in
    omega (arith, t.node_is, t.within, is.as_long, ap length (c.load-old.ensures.image ∙ c.load-was.ensures.image))

pub fill_key-requires-clause-small : goal.fill_key-requires-clause-small
fill_key-requires-clause-small g c =
    let t = c.requires.region.5 in
    omega (arith, t.node_is, t.within, pow_small c.args.order c.requires.order.most)

pub fill_key-requires-clause-body : goal.fill_key-requires-clause-body
fill_key-requires-clause-body g c =
    let o = c.requires.order in
    let is = c.requires.region.4 in
    let t = c.requires.region.5 in
    let w = g.M.Look.shown.image c.args.space.now in
    let was : c.load-was.result ≡ len_at c.args.order w t.block = c.load-was.ensures.word ∙ ap (λ a. slice_index w (a + 1)) t.node_is in
    let old : c.load-old.result ≡ data_at c.args.order w t.block = c.load-old.ensures.word ∙ ap (λ (v : List ℕ). slice_index v (c.args.place.node + 3)) c.load-was.ensures.image ∙ ap (λ a. slice_index w (a + 3)) t.node_is in
    let test : stay_there (len_at c.args.order w t.block) c.len-len.result ≡ true = ap (λ m. stay_there m c.len-len.result) (sym was) ∙ sym c.stays_there.ensures ∙ c.if-stays_there.true in
    let all = staying (len_at c.args.order w t.block) c.len-len.result test in
    let at = kept_inside o is t c.len-len.result c.len-len.ensures.within all.0 all.1 all.2 in
    omega (arith, at, old, c.len-len.ensures.many, is.as_long, ap length (c.load-old.ensures.image ∙ c.load-was.ensures.image))

pub fill_key-requires-clause-low : goal.fill_key-requires-clause-low
fill_key-requires-clause-low g c =
    let o = c.requires.order in
    let is = c.requires.region.4 in
    let t = c.requires.region.5 in
    let w = g.M.Look.shown.image c.args.space.now in
    let was : c.load-was.result ≡ len_at c.args.order w t.block = c.load-was.ensures.word ∙ ap (λ a. slice_index w (a + 1)) t.node_is in
    let old : c.load-old.result ≡ data_at c.args.order w t.block = c.load-old.ensures.word ∙ ap (λ (v : List ℕ). slice_index v (c.args.place.node + 3)) c.load-was.ensures.image ∙ ap (λ a. slice_index w (a + 3)) t.node_is in
    let test : stay_there (len_at c.args.order w t.block) c.len-len.result ≡ true = ap (λ m. stay_there m c.len-len.result) (sym was) ∙ sym c.stays_there.ensures ∙ c.if-stays_there.true in
    let all = staying (len_at c.args.order w t.block) c.len-len.result test in
    let at = kept_inside o is t c.len-len.result c.len-len.ensures.within all.0 all.1 all.2 in
    omega (arith, at, old)

pub fill_key-requires-clause-beside : goal.fill_key-requires-clause-beside
fill_key-requires-clause-beside g c =
    let o = c.requires.order in
    let is = c.requires.region.4 in
    let t = c.requires.region.5 in
    let w = g.M.Look.shown.image c.args.space.now in
    let was : c.load-was.result ≡ len_at c.args.order w t.block = c.load-was.ensures.word ∙ ap (λ a. slice_index w (a + 1)) t.node_is in
    let old : c.load-old.result ≡ data_at c.args.order w t.block = c.load-old.ensures.word ∙ ap (λ (v : List ℕ). slice_index v (c.args.place.node + 3)) c.load-was.ensures.image ∙ ap (λ a. slice_index w (a + 3)) t.node_is in
    let test : stay_there (len_at c.args.order w t.block) c.len-len.result ≡ true = ap (λ m. stay_there m c.len-len.result) (sym was) ∙ sym c.stays_there.ensures ∙ c.if-stays_there.true in
    let all = staying (len_at c.args.order w t.block) c.len-len.result test in
    let at = kept_beside o is t c.len-len.result c.len-len.ensures.within all.0 all.1 all.2 in
    subst (λ a. (c.args.place.node + 4 ≤ a) ⊎ (a + words_for (length c.args.bytes.now) ≤ c.args.place.node)) (sym old) (subst (λ m. (c.args.place.node + 4 ≤ data_at c.args.order w t.block) ⊎ (data_at c.args.order w t.block + words_for m ≤ c.args.place.node)) c.len-len.ensures.many at)

pub returns-then-stays_there-clause-done : goal.returns-then-stays_there-clause-done
returns-then-stays_there-clause-done g c key bucket s k is t =
    let o = c.requires.order in
    let n = c.args.order in
    let w = g.M.Look.shown.image c.args.space.now in
    let new = g.M.Look.shown.image c.fill_key.new.space in
    let was : c.load-was.result ≡ len_at n w t.block = c.load-was.ensures.word ∙ ap (λ a. slice_index w (a + 1)) t.node_is in
    let old : c.load-old.result ≡ data_at n w t.block = c.load-old.ensures.word ∙ ap (λ (v : List ℕ). slice_index v (c.args.place.node + 3)) c.load-was.ensures.image ∙ ap (λ a. slice_index w (a + 3)) t.node_is in
    let many = c.len-len.ensures.many in
    let test : stay_there (len_at n w t.block) (length c.args.bytes.now) ≡ true = ap (λ m. stay_there m (length c.args.bytes.now)) (sym was) ∙ ap (λ m. stay_there c.load-was.result m) (sym many) ∙ sym c.stays_there.ensures ∙ c.if-stays_there.true in
    let all = staying (len_at n w t.block) (length c.args.bytes.now) test in
    let filled = subst (λ a. IsFilled c.args.place.node a c.args.bytes.now w new) old (subst (λ (v : List ℕ). IsFilled c.args.place.node c.load-old.result c.args.bytes.now v new) (c.load-old.ensures.image ∙ c.load-was.ensures.image) c.fill_key.ensures.filled) in
    let region = kept_bytes o is t c.args.bytes.now new (omega (arith, many, c.len-len.ensures.within)) all.0 all.1 all.2 filled in
    let after = sym (told_was o is t c.args.bytes.now ∙ ap (set_again s key c.args.bytes.now (blob_at n w t.block)) (told_kept is t.block c.args.bytes.now test)) in
    let told : c.load-was.result ≡ length (blob_at n w t.block).bytes = was ∙ sym (long_at w (data_at n w t.block) (len_at n w t.block)) in
    (ap (λ m. reply.Was m) told ∙ ap (λ a. a.1) after, subst (λ (x : BlobState). BlobContents n new x k) (ap (λ a. a.0) after) region)

-- there is no block for them
pub returns-in_default-clause-done : goal.returns-in_default-clause-done
returns-in_default-clause-done g c key bucket s k is t =
    let o = c.requires.order in
    let n = c.args.order in
    let w = g.M.Look.shown.image c.args.space.now in
    let xs = held n w bucket in
    let many = c.len-len.ensures.many in
    let same = c.load-old.ensures.image ∙ c.load-was.ensures.image in
    let was : c.load-was.result ≡ len_at n w t.block = c.load-was.ensures.word ∙ ap (λ a. slice_index w (a + 1)) t.node_is in
    let test : stay_there (len_at n w t.block) (length c.args.bytes.now) ≡ false = ap (λ m. stay_there m (length c.args.bytes.now)) (sym was) ∙ ap (λ m. stay_there c.load-was.result m) (sym many) ∙ sym c.stays_there.ensures ∙ c.if-stays_there.false in
    let none = c.in_default.ensures.taken (taken_with xs) is.apart.disjoint (subst (λ (v : List ℕ). AreWords n (taken_with xs) v) (sym same) is.tree) in
    let after = sym (told_was o is t c.args.bytes.now ∙ ap (set_again s key c.args.bytes.now (blob_at n w t.block)) (told_moved is t.block c.args.bytes.now test ∙ no_room n c.len-len.result xs c.args.bytes.now w o.least is.apart is.tree (sym many) none)) in
    (ap (λ a. a.1) after, subst (λ (x : BlobState). BlobContents n (g.M.Look.shown.image c.take_body.new.space) x k) (ap (λ a. a.0) after) (subst (λ (v : List ℕ). BlobContents n v s k) (sym (c.in_default.ensures.none.image ∙ same)) (bucket, is)))

-- they go to another
pub fill_key-requires-2-clause-node : goal.fill_key-requires-2-clause-node
fill_key-requires-2-clause-node g c =
    let is = c.requires.region.4 in
    let t = c.requires.region.5 in
    omega (arith, t.node_is, t.within, is.as_long, ap length (c.load-old.ensures.image ∙ c.load-was.ensures.image), c.in-Some.ensures.others.as_long)

pub fill_key-requires-2-clause-small : goal.fill_key-requires-2-clause-small
fill_key-requires-2-clause-small g c =
    let t = c.requires.region.5 in
    omega (arith, t.node_is, t.within, pow_small c.args.order c.requires.order.most)

pub fill_key-requires-2-clause-body : goal.fill_key-requires-2-clause-body
fill_key-requires-2-clause-body g c =
    let o = c.requires.order in
    let n = c.args.order in
    let is = c.requires.region.4 in
    let w = g.M.Look.shown.image c.args.space.now in
    let xs = held n w c.requires.region.1 in
    let same = c.load-old.ensures.image ∙ c.load-was.ensures.image in
    let taken = subst (λ (v : List ℕ). BodyTaken n c.len-len.result (taken_with xs) v (g.M.Look.shown.image c.take_body.new.space) c.in-Some.body) same (c.in-Some.ensures.taken (taken_with xs) is.apart.disjoint (subst (λ (v : List ℕ). AreWords n (taken_with xs) v) (sym same) is.tree)) in
    let r = reserved n c.len-len.result xs c.args.bytes.now w o.least is.apart is.tree (sym c.len-len.ensures.many) (g.M.Look.shown.image c.take_body.new.space) c.in-Some.body taken in
    let at = place_inside n c.len-len.result c.in-Some.body r.body o c.len-len.ensures.within r.placed r.bare in
    omega (arith, at, c.len-len.ensures.many, is.as_long, c.in-Some.ensures.others.as_long, ap length same)

pub fill_key-requires-2-clause-low : goal.fill_key-requires-2-clause-low
fill_key-requires-2-clause-low g c =
    let o = c.requires.order in
    let n = c.args.order in
    let is = c.requires.region.4 in
    let w = g.M.Look.shown.image c.args.space.now in
    let xs = held n w c.requires.region.1 in
    let same = c.load-old.ensures.image ∙ c.load-was.ensures.image in
    let taken = subst (λ (v : List ℕ). BodyTaken n c.len-len.result (taken_with xs) v (g.M.Look.shown.image c.take_body.new.space) c.in-Some.body) same (c.in-Some.ensures.taken (taken_with xs) is.apart.disjoint (subst (λ (v : List ℕ). AreWords n (taken_with xs) v) (sym same) is.tree)) in
    let r = reserved n c.len-len.result xs c.args.bytes.now w o.least is.apart is.tree (sym c.len-len.ensures.many) (g.M.Look.shown.image c.take_body.new.space) c.in-Some.body taken in
    let at = place_inside n c.len-len.result c.in-Some.body r.body o c.len-len.ensures.within r.placed r.bare in
    omega (arith, at)

pub fill_key-requires-2-clause-beside : goal.fill_key-requires-2-clause-beside
fill_key-requires-2-clause-beside g c =
    let o = c.requires.order in
    let n = c.args.order in
    let is = c.requires.region.4 in
    let t = c.requires.region.5 in
    let w = g.M.Look.shown.image c.args.space.now in
    let xs = held n w c.requires.region.1 in
    let same = c.load-old.ensures.image ∙ c.load-was.ensures.image in
    let taken = subst (λ (v : List ℕ). BodyTaken n c.len-len.result (taken_with xs) v (g.M.Look.shown.image c.take_body.new.space) c.in-Some.body) same (c.in-Some.ensures.taken (taken_with xs) is.apart.disjoint (subst (λ (v : List ℕ). AreWords n (taken_with xs) v) (sym same) is.tree)) in
    let r = reserved n c.len-len.result xs c.args.bytes.now w o.least is.apart is.tree (sym c.len-len.ensures.many) (g.M.Look.shown.image c.take_body.new.space) c.in-Some.body taken in
    let only = subst (λ (v : List ℕ). ChangesOnly 17 (2 * 2 ^ n - 1) v (g.M.Look.shown.image c.take_body.new.space)) same c.in-Some.ensures.others in
    subst (λ m. (c.args.place.node + 4 ≤ c.in-Some.body) ⊎ (c.in-Some.body + words_for m ≤ c.args.place.node)) c.len-len.ensures.many (moved_beside o is t (sym c.len-len.ensures.many) c.len-len.ensures.within r only)

pub give_body-requires-clause-holds : goal.give_body-requires-clause-holds
give_body-requires-clause-holds g c some =
    let o = c.requires.order in
    let n = c.args.order in
    let is = c.requires.region.4 in
    let t = c.requires.region.5 in
    let w = g.M.Look.shown.image c.args.space.now in
    let xs = held n w c.requires.region.1 in
    let same = c.load-old.ensures.image ∙ c.load-was.ensures.image in
    let was : c.load-was.result ≡ len_at n w t.block = c.load-was.ensures.word ∙ ap (λ a. slice_index w (a + 1)) t.node_is in
    let old : c.load-old.result ≡ data_at n w t.block = c.load-old.ensures.word ∙ ap (λ (v : List ℕ). slice_index v (c.args.place.node + 3)) c.load-was.ensures.image ∙ ap (λ a. slice_index w (a + 3)) t.node_is in
    let taken = subst (λ (v : List ℕ). BodyTaken n c.len-len.result (taken_with xs) v (g.M.Look.shown.image c.take_body.new.space) c.in-Some.body) same (c.in-Some.ensures.taken (taken_with xs) is.apart.disjoint (subst (λ (v : List ℕ). AreWords n (taken_with xs) v) (sym same) is.tree)) in
    let r = reserved n c.len-len.result xs c.args.bytes.now w o.least is.apart is.tree (sym c.len-len.ensures.many) (g.M.Look.shown.image c.take_body.new.space) c.in-Some.body taken in
    let only = subst (λ (v : List ℕ). ChangesOnly 17 (2 * 2 ^ n - 1) v (g.M.Look.shown.image c.take_body.new.space)) same c.in-Some.ensures.others in
    may_give_body o.least (moved_bytes o is t (sym c.len-len.ensures.many) c.len-len.ensures.within r only (g.M.Look.shown.image c.fill_key-2.new.space) c.fill_key-2.ensures.filled) c.load-was.result c.load-old.result was old some

pub returns-clause-done : goal.returns-clause-done
returns-clause-done g c key bucket s k is t =
    let o = c.requires.order in
    let n = c.args.order in
    let w = g.M.Look.shown.image c.args.space.now in
    let new = g.M.Look.shown.image c.give_body.new.space in
    let xs = held n w bucket in
    let many = c.len-len.ensures.many in
    let same = c.load-old.ensures.image ∙ c.load-was.ensures.image in
    let was : c.load-was.result ≡ len_at n w t.block = c.load-was.ensures.word ∙ ap (λ a. slice_index w (a + 1)) t.node_is in
    let old : c.load-old.result ≡ data_at n w t.block = c.load-old.ensures.word ∙ ap (λ (v : List ℕ). slice_index v (c.args.place.node + 3)) c.load-was.ensures.image ∙ ap (λ a. slice_index w (a + 3)) t.node_is in
    let test : stay_there (len_at n w t.block) (length c.args.bytes.now) ≡ false = ap (λ m. stay_there m (length c.args.bytes.now)) (sym was) ∙ ap (λ m. stay_there c.load-was.result m) (sym many) ∙ sym c.stays_there.ensures ∙ c.if-stays_there.false in
    let taken = subst (λ (v : List ℕ). BodyTaken n c.len-len.result (taken_with xs) v (g.M.Look.shown.image c.take_body.new.space) c.in-Some.body) same (c.in-Some.ensures.taken (taken_with xs) is.apart.disjoint (subst (λ (v : List ℕ). AreWords n (taken_with xs) v) (sym same) is.tree)) in
    let r = reserved n c.len-len.result xs c.args.bytes.now w o.least is.apart is.tree (sym many) (g.M.Look.shown.image c.take_body.new.space) c.in-Some.body taken in
    let only = subst (λ (v : List ℕ). ChangesOnly 17 (2 * 2 ^ n - 1) v (g.M.Look.shown.image c.take_body.new.space)) same c.in-Some.ensures.others in
    let given = subst (λ m. BodyGiven n m (data_at n w t.block) (g.M.Look.shown.image c.fill_key-2.new.space) new) was (subst (λ a. BodyGiven n c.load-was.result a (g.M.Look.shown.image c.fill_key-2.new.space) new) old c.give_body.ensures.given) in
    let region = given_back o.least (moved_bytes o is t (sym many) c.len-len.ensures.within r only (g.M.Look.shown.image c.fill_key-2.new.space) c.fill_key-2.ensures.filled) new given c.give_body.ensures.others in
    let after = sym (told_was o is t c.args.bytes.now ∙ ap (set_again s key c.args.bytes.now (blob_at n w t.block)) (told_moved is t.block c.args.bytes.now test ∙ r.chosen)) in
    let told : c.load-was.result ≡ length (blob_at n w t.block).bytes = was ∙ sym (long_at w (data_at n w t.block) (len_at n w t.block)) in
    (ap (λ m. reply.Was m) told ∙ ap (λ a. a.1) after, subst (λ (x : BlobState). BlobContents n new x k) (ap (λ a. a.0) after) (bucket, region))
