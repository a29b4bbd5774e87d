use Rattle.std.proofs.Common.{◌≡◌, ◌∙◌, ℕ, List, OnOk, ◌*◌, rules, subst, sym}
use Rattle.rom_model.specs.Blocks.{region_len}
use Rattle.rom_device.specs.Device.{Becomes, Does, Runs}
use Rattle.rom_header.specs.Layout.{MAIN, back_of}
use Rattle.rom_header.specs.Writing.{StateOrWithin}
use Rattle.rom_twin.proofs.Since.{becomes_then}
use Rattle.rom_twin.specs.Images.{Twins}
use Rattle.rom_twin.specs.Seen.{committed_in}
use Rattle.rom_twin.specs.declared.phase.Phase.{Phase}
use Rattle.rom_open.specs.Batch.{CountsEither}
use Rattle.rom_open.proofs.Outside.{within_then}
use Rattle.rom_open.proofs.Writing.{new_counts}
use Rattle.rom_open.proofs.upgrade.batch.replace_regions.Goals as goal

pub returns-clause-since : goal.returns-clause-since
returns-clause-since g c told =
    let shown = g.D.Device.shown in
    let a = c.args.device in
    let n : ℕ = c.args.geometry in
    let t = c.new-twin.result in
    let u = c.commit_region-committed.new.twin in
    let v = c.end_batch-ended.new.twin in
    let old : List ℕ = back_of n (shown.words a) in
    let m : List ℕ = g.M.Look.shown.image c.args.region.now in
    let same : g.M.Look.shown.image c.commit_region-committed.new.region ≡ m = search rules in
    let first : Runs shown (Becomes (CountsEither n old m)) a u.device
    = subst (λ (z : g.row.D.Denot × (ℕ × Phase)). Runs shown (Becomes (CountsEither z.1.0 (committed_in z.1.1 z.1.0 (shown.words z.0)) m)) z.0 u.device) (λ j. (c.new-twin.ensures.device j, (c.new-twin.ensures.order j, c.new-twin.ensures.phase j))) (c.commit_region-committed.ensures.since told) in
    let second : Runs shown (Becomes (CountsEither n old m)) u.device v.device
    = new_counts shown n old m u.device v.device _ _ (c.commit_region-committed.ensures.kept.order ∙ c.new-twin.ensures.order) same (c.end_batch-ended.ensures.since told) in
    subst (λ (d : g.row.D.Denot). Runs shown (Becomes (CountsEither n old m)) a d) (sym c.into_device-2.ensures) (becomes_then shown (CountsEither n old m) a u.device v.device first second)

pub returns-clause-now : goal.returns-clause-now
returns-clause-now g c told =
    let shown = g.D.Device.shown in
    let m : List ℕ = g.M.Look.shown.image c.args.region.now in
    let same : g.M.Look.shown.image c.commit_region-committed.new.region ≡ m = search rules in
    subst (λ (z : g.row.D.Denot × (ℕ × List ℕ)). OnOk c.end_batch-ended.result ((i : List ℕ) → shown.leaves z.0 i → Twins z.1.0 z.1.1 i))
    (λ j. (sym c.into_device-2.ensures j, ((c.commit_region-committed.ensures.kept.order ∙ c.new-twin.ensures.order) j, same j)))
    (c.end_batch-ended.ensures.now told)

pub returns-clause-does : goal.returns-clause-does
returns-clause-does g c =
    let shown = g.D.Device.shown in
    let a = c.args.device in
    let n : ℕ = c.args.geometry in
    let u = c.commit_region-committed.new.twin in
    let v = c.end_batch-ended.new.twin in
    let first : Does shown (StateOrWithin MAIN (2 * region_len n)) a u.device
    = subst (λ (z : g.row.D.Denot × ℕ). Does shown (StateOrWithin MAIN (2 * region_len z.1)) z.0 u.device) (λ j. (c.new-twin.ensures.device j, c.new-twin.ensures.order j)) c.commit_region-committed.ensures.does in
    let second : Does shown (StateOrWithin MAIN (2 * region_len n)) u.device v.device
    = subst (λ (k : ℕ). Does shown (StateOrWithin MAIN (2 * region_len k)) u.device v.device) (c.commit_region-committed.ensures.kept.order ∙ c.new-twin.ensures.order) c.end_batch-ended.ensures.does in
    subst (λ (d : g.row.D.Denot). Does shown (StateOrWithin MAIN (2 * region_len n)) a d) (sym c.into_device-2.ensures) (within_then shown n a u.device v.device first second)
