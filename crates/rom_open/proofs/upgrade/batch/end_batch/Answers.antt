use Rattle.std.proofs.Common.{ℕ, List, subst}
use Rattle.rom_twin.proofs.Since.{becomes_then}
use Rattle.rom_twin.specs.Images.{ImageOf}
use Rattle.rom_twin.specs.Seen.{committed}
use Rattle.rom_twin.specs.declared.phase.Phase.{Phase}
use Rattle.rom_header.specs.Regions.{IsCurrentRegion}
use Rattle.rom_open.specs.Upgrading.{IsWholeHeap}
use Rattle.rom_open.proofs.Outside.{within_back, within_state, within_then}
use Rattle.rom_open.proofs.Regions.{whole_then}
use Rattle.rom_open.proofs.Writing.{copied_counts, finished_counts}
use Rattle.rom_open.proofs.upgrade.batch.end_batch.Goals as goal

pub returns-in_err-copy-clause-since : goal.returns-in_err-copy-clause-since
returns-in_err-copy-clause-since g c told =
    let m : List ℕ = g.M.Look.shown.image c.args.region.now in
    copied_counts g.D.Device.shown c.args.twin.now.order m m c.args.twin.now.device c.copy.new.self.device (c.copy.ensures.since told)

pub returns-in_err-copy-clause-does : goal.returns-in_err-copy-clause-does
returns-in_err-copy-clause-does g c =
    within_back g.D.Device.shown c.args.twin.now.order c.args.ranges.now (g.M.Look.shown.image c.args.region.now) c.requires.region c.args.twin.now.device c.copy.new.self.device c.copy.ensures.puts.does

pub returns-clause-since : goal.returns-clause-since
returns-clause-since g c told =
    let shown = g.D.Device.shown in
    let a = c.args.twin.now in
    let b = c.copy.new.self in
    let d = c.finish.new.self in
    let m : List ℕ = g.M.Look.shown.image c.args.region.now in
    becomes_then shown (λ i. IsCurrentRegion a.order i m) a.device b.device d.device (copied_counts shown a.order m m a.device b.device (c.copy.ensures.since told))
    (finished_counts shown a.order m m b.device d.device _ _ c.copy.ensures.kept.order (c.copy.ensures.kept.committed_is told) (c.finish.ensures.since told))

pub returns-clause-whole : goal.returns-clause-whole
returns-clause-whole g c told =
    let shown = g.D.Device.shown in
    let b = c.copy.new.self in
    let known = c.copy.ensures.kept.images told in
    let w : List ℕ = shown.words b.device in
    let stands = subst (λ (p : Phase). ImageOf p b.order (committed shown b) known.new w) c.in_ok-copy.ensures.ok (known.each w (g.met.D.Device.reads_image b.device told)) in
    subst (λ (n : ℕ). IsWholeHeap n (shown.words c.finish.new.self.device)) c.copy.ensures.kept.order
    (whole_then b.order known.new w (shown.words c.finish.new.self.device) stands (c.finish.ensures.does.words (g.met.D.Device.tells_both told)))

pub returns-clause-does : goal.returns-clause-does
returns-clause-does g c =
    let shown = g.D.Device.shown in
    let a = c.args.twin.now in
    let b = c.copy.new.self in
    let d = c.finish.new.self in
    within_then shown a.order a.device b.device d.device
    (within_back shown a.order c.args.ranges.now (g.M.Look.shown.image c.args.region.now) c.requires.region a.device b.device c.copy.ensures.puts.does)
    (within_state shown a.order _ b.device d.device c.finish.ensures.does)
