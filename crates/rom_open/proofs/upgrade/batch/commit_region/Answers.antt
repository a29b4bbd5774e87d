use Rattle.std.proofs.Common.{◌∙◌, ℕ, List}
use Rattle.rom_twin.proofs.Since.{becomes_then}
use Rattle.rom_twin.specs.Seen.{committed}
use Rattle.rom_open.specs.Batch.{CountsEither}
use Rattle.rom_open.proofs.Outside.{within_main, within_state, within_then}
use Rattle.rom_open.proofs.Writing.{begun_counts, committed_counts, written_counts}
use Rattle.rom_open.proofs.upgrade.batch.commit_region.Goals as goal

pub returns-in_err-begin-clause-does : goal.returns-in_err-begin-clause-does
returns-in_err-begin-clause-does g c = within_state g.D.Device.shown c.args.twin.now.order _ c.args.twin.now.device c.begin.new.self.device c.begin.ensures.does

pub returns-in_err-persist-clause-since : goal.returns-in_err-persist-clause-since
returns-in_err-persist-clause-since g c told =
    let shown = g.D.Device.shown in
    let a = c.args.twin.now in
    let b = c.begin.new.self in
    let d = c.persist.new.self in
    let old : List ℕ = committed shown a in
    let m : List ℕ = g.M.Look.shown.image c.args.region.now in
    becomes_then shown (CountsEither a.order old m) a.device b.device d.device (begun_counts shown a.order old m a.device b.device (c.begin.ensures.since told))
    (written_counts shown a.order old m b.device d.device _ _ c.begin.ensures.kept.order (c.begin.ensures.kept.committed_is told) (c.persist.ensures.since told))

pub returns-in_err-persist-clause-does : goal.returns-in_err-persist-clause-does
returns-in_err-persist-clause-does g c =
    let shown = g.D.Device.shown in
    let a = c.args.twin.now in
    let b = c.begin.new.self in
    let d = c.persist.new.self in
    within_then shown a.order a.device b.device d.device (within_state shown a.order _ a.device b.device c.begin.ensures.does)
    (within_main shown a.order c.args.ranges.now (g.M.Look.shown.image c.args.region.now) c.requires.region b.device d.device c.persist.ensures.puts.does)

pub returns-clause-since : goal.returns-clause-since
returns-clause-since g c told =
    let shown = g.D.Device.shown in
    let a = c.args.twin.now in
    let b = c.begin.new.self in
    let d = c.persist.new.self in
    let e = c.commit.new.self in
    let old : List ℕ = committed shown a in
    let m : List ℕ = g.M.Look.shown.image c.args.region.now in
    let written = becomes_then shown (CountsEither a.order old m) a.device b.device d.device (begun_counts shown a.order old m a.device b.device (c.begin.ensures.since told))
    (written_counts shown a.order old m b.device d.device _ _ c.begin.ensures.kept.order (c.begin.ensures.kept.committed_is told) (c.persist.ensures.since told)) in
    becomes_then shown (CountsEither a.order old m) a.device d.device e.device written
    (committed_counts shown a.order old m d.device e.device _ _ _ (c.persist.ensures.kept.order ∙ c.begin.ensures.kept.order) (c.persist.ensures.kept.committed_is told ∙ c.begin.ensures.kept.committed_is told) (c.in_ok-persist.ensures.main told) (c.commit.ensures.since told))

pub returns-clause-does : goal.returns-clause-does
returns-clause-does g c =
    let shown = g.D.Device.shown in
    let a = c.args.twin.now in
    let b = c.begin.new.self in
    let d = c.persist.new.self in
    let e = c.commit.new.self in
    within_then shown a.order a.device d.device e.device
    (within_then shown a.order a.device b.device d.device (within_state shown a.order _ a.device b.device c.begin.ensures.does)
    (within_main shown a.order c.args.ranges.now (g.M.Look.shown.image c.args.region.now) c.requires.region b.device d.device c.persist.ensures.puts.does))
    (within_state shown a.order _ d.device e.device c.commit.ensures.does)
