use Rattle.std.proofs.Common.{◌≡◌, ◌+◌, ◌*◌, ℕ, List, length, slice_index, arith, sym, ap, subst, ◌∙◌}
use Rattle.rom_model.specs.Region.{bucket_of}
use Rattle.rom_model.proofs.Looks.{looks_most, looks_more, looks_then}
use Rattle.rom_bucket.specs.Buckets.{keys_beside}
use Rattle.rom_bucket.proofs.Finding.{own_within}
use Rattle.rom_bucket.proofs.Keys.{holds_bucket}
use Rattle.rom_blob_region.specs.Bytes.{bytes_at, EndsInZeros}
use Rattle.rom_blob_region.specs.State.{bytes_told}
use Rattle.rom_blob_region.specs.Region.{len_at, data_at}
use Rattle.rom_blob_region.specs.declared.call.BlobAnswer.TheVariants as answer
use Rattle.rom_blob_region.proofs.Fetching.{looked, stays, gone, spot, sooner, has, fits, inside, small, len_is, data_is, body_within, body_small}
use Rattle.rom_blob_region.proofs.fetch.fetch_blob.Goals as goal

pub find-node-requires-clause-sized : goal.find-node-requires-clause-sized
find-node-requires-clause-sized g c = c.requires.region.2.1.as_long

pub find-node-requires-clause-bucket : goal.find-node-requires-clause-bucket
find-node-requires-clause-bucket g c = holds_bucket c.requires.region.2.1.keys (bucket_of c.args.order c.args.key) (own_within c.args.key c.requires.order)

-- the key is not there
pub returns-then-node-eq0-clause-told : goal.returns-then-node-eq0-clause-told
returns-then-node-eq0-clause-told g c s k held = ap (λ o. bytes_told o) (sym (gone c.requires.order held.1 c.find-node.ensures (omega arith)))

pub returns-then-node-eq0-clause-looks : goal.returns-then-node-eq0-clause-looks
returns-then-node-eq0-clause-looks g c s k held = looks_most g.M.Look.shown _ _ (omega arith) (looked c.requires.order held.1 c.find-node.ensures)

-- the key is there
pub overflow_add-node : goal.overflow_add-node
overflow_add-node g c = omega (arith, small c.requires.order c.requires.region.2.1 c.find-node.ensures c.if-node-eq0.false)

pub load-len-requires : goal.load-len-requires
load-len-requires g c = record { within = omega (arith, inside c.requires.order c.requires.region.2.1 c.find-node.ensures c.if-node-eq0.false) }

pub returns-then-len-eq0-clause-told : goal.returns-then-len-eq0-clause-told
returns-then-len-eq0-clause-told g c s k held =
    let o = c.requires.order in
    let n = c.args.order in
    let w = g.M.Look.shown.image c.args.space.now in
    let t = spot o held.1 c.find-node.ensures c.if-node-eq0.false in
    let none : 0 ≡ len_at n w t.block = omega (arith, c.load-len.ensures.word, len_is o held.1 c.find-node.ensures c.if-node-eq0.false) in
    ap (λ (b : List ℕ). answer.Bytes b) (c.new.ensures ∙ ap (λ m. bytes_at w (data_at n w t.block) m) none) ∙ ap (λ o. bytes_told o) (sym (has o held.1 c.find-node.ensures c.if-node-eq0.false))

pub returns-then-len-eq0-clause-looks : goal.returns-then-len-eq0-clause-looks
returns-then-len-eq0-clause-looks g c s k held = looks_more g.M.Look.shown _ _ (omega arith) (sooner c.requires.order held.1 c.find-node.ensures c.if-node-eq0.false) c.load-len.ensures.image c.load-len.ensures.counts

pub overflow_add-node-2 : goal.overflow_add-node-2
overflow_add-node-2 g c = omega (arith, small c.requires.order c.requires.region.2.1 c.find-node.ensures c.if-node-eq0.false)

pub load-at-requires : goal.load-at-requires
load-at-requires g c = record { within = omega (arith, inside c.requires.order c.requires.region.2.1 c.find-node.ensures c.if-node-eq0.false, ap length c.load-len.ensures.image) }

pub load-requires-clause-len : goal.load-requires-clause-len
load-requires-clause-len g c =
    let o = c.requires.order in
    let is = c.requires.region.2.1 in
    omega (arith, c.load-len.ensures.word, len_is o is c.find-node.ensures c.if-node-eq0.false, (fits o is c.find-node.ensures c.if-node-eq0.false).few)

pub load-requires-clause-within : goal.load-requires-clause-within
load-requires-clause-within g c =
    let o = c.requires.order in
    let is = c.requires.region.2.1 in
    let len = c.load-len.ensures.word ∙ len_is o is c.find-node.ensures c.if-node-eq0.false in
    let at = c.load-at.ensures.word ∙ ap (λ (v : List ℕ). slice_index v (c.find-node.result.node + 3)) c.load-len.ensures.image ∙ data_is o is c.find-node.ensures c.if-node-eq0.false in
    omega (arith, len, at, ap length c.load-len.ensures.image, ap length c.load-at.ensures.image, body_within o is c.find-node.ensures c.if-node-eq0.false (λ e. absurd (omega (arith, e, len))))

pub load-requires-clause-small : goal.load-requires-clause-small
load-requires-clause-small g c =
    let o = c.requires.order in
    let is = c.requires.region.2.1 in
    let len = c.load-len.ensures.word ∙ len_is o is c.find-node.ensures c.if-node-eq0.false in
    let at = c.load-at.ensures.word ∙ ap (λ (v : List ℕ). slice_index v (c.find-node.result.node + 3)) c.load-len.ensures.image ∙ data_is o is c.find-node.ensures c.if-node-eq0.false in
    omega (arith, at, body_small o is c.find-node.ensures c.if-node-eq0.false (λ e. absurd (omega (arith, e, len))))

pub load-requires-clause-ends : goal.load-requires-clause-ends
load-requires-clause-ends g c =
    let o = c.requires.order in
    let is = c.requires.region.2.1 in
    let len = c.load-len.ensures.word ∙ len_is o is c.find-node.ensures c.if-node-eq0.false in
    let at = c.load-at.ensures.word ∙ ap (λ (v : List ℕ). slice_index v (c.find-node.result.node + 3)) c.load-len.ensures.image ∙ data_is o is c.find-node.ensures c.if-node-eq0.false in
    let same = c.load-at.ensures.image ∙ c.load-len.ensures.image ∙ stays o is c.find-node.ensures in
    let ends = (fits o is c.find-node.ensures c.if-node-eq0.false).ends (λ e. absurd (omega (arith, e, len))) in
    subst (λ (v : List ℕ). EndsInZeros v c.load-at.result c.load-len.result) (sym same)
    (subst (λ a. EndsInZeros (g.M.Look.shown.image c.args.space.now) a c.load-len.result) (sym at)
    (subst (λ m. EndsInZeros (g.M.Look.shown.image c.args.space.now) (data_at c.args.order (g.M.Look.shown.image c.args.space.now) (spot o is c.find-node.ensures c.if-node-eq0.false).block) m) (sym len) ends))

pub returns-clause-told : goal.returns-clause-told
returns-clause-told g c s k held =
    let o = c.requires.order in
    let is = held.1 in
    let n = c.args.order in
    let w = g.M.Look.shown.image c.args.space.now in
    let t = spot o is c.find-node.ensures c.if-node-eq0.false in
    let len = c.load-len.ensures.word ∙ len_is o is c.find-node.ensures c.if-node-eq0.false in
    let at = c.load-at.ensures.word ∙ ap (λ (v : List ℕ). slice_index v (c.find-node.result.node + 3)) c.load-len.ensures.image ∙ data_is o is c.find-node.ensures c.if-node-eq0.false in
    let same = c.load-at.ensures.image ∙ c.load-len.ensures.image ∙ stays o is c.find-node.ensures in
    let bytes = c.load.ensures.bytes ∙ (λ i. bytes_at (same i) (at i) (len i)) in
    ap (λ (b : List ℕ). answer.Bytes b) bytes ∙ ap (λ o. bytes_told o) (sym (has o is c.find-node.ensures c.if-node-eq0.false))

pub returns-clause-looks : goal.returns-clause-looks
returns-clause-looks g c s k held =
    let o = c.requires.order in
    let beside = keys_beside c.args.order s c.args.key in
    let few = (fits o held.1 c.find-node.ensures c.if-node-eq0.false).few in
    let len = c.load-len.ensures.word ∙ len_is o held.1 c.find-node.ensures c.if-node-eq0.false in
    let one = looks_more g.M.Look.shown (2 * beside) (2 * beside + 1) (omega arith) (sooner o held.1 c.find-node.ensures c.if-node-eq0.false) c.load-len.ensures.image c.load-len.ensures.counts in
    let two = looks_more g.M.Look.shown (2 * beside + 1) (2 * beside + 2) (omega arith) one c.load-at.ensures.image c.load-at.ensures.counts in
    looks_then _ (omega (arith, few, len)) two c.load.ensures.looks
