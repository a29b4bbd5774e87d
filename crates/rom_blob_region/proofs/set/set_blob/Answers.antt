use Rattle.std.proofs.Common.{ℕ, List, arith, sym, ap, subst, ◌∙◌}
use Rattle.rom_model.specs.Region.{bucket_of}
use Rattle.rom_model.proofs.Looks.{room_left}
use Rattle.rom_bucket.specs.Buckets.{There}
use Rattle.rom_bucket.proofs.Finding.{own_within}
use Rattle.rom_bucket.proofs.Keys.{holds_bucket}
use Rattle.rom_blob_region.specs.State.{BlobState, set_blob}
use Rattle.rom_blob_region.specs.Region.{BlobContents, IsBlobs}
use Rattle.rom_blob_region.proofs.Fetching.{looked, stays, gone, spot}
use Rattle.rom_blob_region.proofs.Bounding.{full_bound}
use Rattle.rom_blob_region.proofs.Ranges.{contents_ranged}
use Rattle.rom_blob_region.proofs.Spending.{stores_then}
use Rattle.rom_blob_region.proofs.set.set_blob.Goals as goal

pub find-place-requires-clause-sized : goal.find-place-requires-clause-sized
find-place-requires-clause-sized g c = c.requires.region.2.1.as_long

pub find-place-requires-clause-bucket : goal.find-place-requires-clause-bucket
find-place-requires-clause-bucket g c = holds_bucket c.requires.region.2.1.keys (bucket_of c.args.order c.args.key) (own_within c.args.key c.requires.order)

pub add_key-requires-clause-region : goal.add_key-requires-clause-region
add_key-requires-clause-region g c =
    let r = c.requires.region in
    (r.0, r.1, subst (λ (v : List ℕ). BlobContents c.args.order v r.0 r.1) (sym (stays c.requires.order r.2.1 c.find-place.ensures)) r.2)

pub add_key-requires-clause-absent : goal.add_key-requires-clause-absent
add_key-requires-clause-absent g c s k held =
    let r = c.requires.region in
    let was = subst (λ (v : List ℕ). BlobContents c.args.order v s k) (stays c.requires.order r.2.1 c.find-place.ensures) held in
    gone c.requires.order was.1 c.find-place.ensures c.if-place-eq0.true

pub add_key-requires-clause-room : goal.add_key-requires-clause-room
add_key-requires-clause-room g c = room_left 72 g.met.M.Look.limit_counts (omega arith) c.requires.room (looked c.requires.order c.requires.region.2.1 c.find-place.ensures).costs

pub returns-then-place-eq0-clause-done : goal.returns-then-place-eq0-clause-done
returns-then-place-eq0-clause-done g c s k held =
    let o = c.requires.order in
    let n = c.args.order in
    let none = gone o held.1 c.find-place.ensures c.if-place-eq0.true in
    let done = c.add_key.ensures.done s k (subst (λ (v : List ℕ). BlobContents n v s k) (sym (stays o held.1 c.find-place.ensures)) held) in
    let same = sym (ap (λ x. set_blob n s c.args.key c.args.bytes.now x) none) in
    (done.0 ∙ ap (λ a. a.1) same, subst (λ (x : BlobState). BlobContents n (g.M.Look.shown.image c.add_key.new.space) x k) (ap (λ a. a.0) same) done.1)

pub returns-then-place-eq0-clause-stores : goal.returns-then-place-eq0-clause-stores
returns-then-place-eq0-clause-stores g c = stores_then 72 (omega arith) (looked c.requires.order c.requires.region.2.1 c.find-place.ensures).costs c.add_key.ensures.stores

pub replace_bytes-requires-clause-region : goal.replace_bytes-requires-clause-region
replace_bytes-requires-clause-region g c =
    let o = c.requires.order in
    let n = c.args.order in
    let r = c.requires.region in
    let same = sym (stays o r.2.1 c.find-place.ensures) in
    (c.args.key, r.2.0, r.0, r.1, subst (λ (v : List ℕ). IsBlobs n v r.2.0 r.0 r.1) same r.2.1, subst (λ (v : List ℕ). There n v r.2.0 c.args.key c.find-place.result) same (spot o r.2.1 c.find-place.ensures c.if-place-eq0.false))

pub replace_bytes-requires-clause-room : goal.replace_bytes-requires-clause-room
replace_bytes-requires-clause-room g c = room_left 72 g.met.M.Look.limit_counts (omega arith) c.requires.room (looked c.requires.order c.requires.region.2.1 c.find-place.ensures).costs

pub returns-clause-done : goal.returns-clause-done
returns-clause-done g c s k held =
    let o = c.requires.order in
    let n = c.args.order in
    let same = sym (stays o held.1 c.find-place.ensures) in
    c.replace_bytes.ensures.done c.args.key held.0 s k (subst (λ (v : List ℕ). IsBlobs n v held.0 s k) same held.1) (subst (λ (v : List ℕ). There n v held.0 c.args.key c.find-place.result) same (spot o held.1 c.find-place.ensures c.if-place-eq0.false))

pub returns-clause-stores : goal.returns-clause-stores
returns-clause-stores g c = stores_then 72 (omega arith) (looked c.requires.order c.requires.region.2.1 c.find-place.ensures).costs c.replace_bytes.ensures.stores

-- no room is told only where many units are in use
pub returns-then-place-eq0-clause-crowded : goal.returns-then-place-eq0-clause-crowded
returns-then-place-eq0-clause-crowded g c s k held full =
    let done = returns-then-place-eq0-clause-done g c s k held in
    full_bound c.args.order s c.requires.order.least (contents_ranged held) c.args.key c.args.bytes.now (sym done.0 ∙ full)

pub returns-clause-crowded : goal.returns-clause-crowded
returns-clause-crowded g c s k held full =
    let done = returns-clause-done g c s k held in
    full_bound c.args.order s c.requires.order.least (contents_ranged held) c.args.key c.args.bytes.now (sym done.0 ∙ full)
