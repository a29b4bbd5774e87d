use Rattle.std.proofs.Common.{ℕ, List, subst, arith}
use Rattle.rom_device.specs.Device.{Becomes, Runs}
use Rattle.rom_twin.specs.Images.{HasBack, Twins}
use Rattle.rom_twin.specs.Seen.{committed}
use Rattle.rom_combine.specs.Images.{BeforeCommit, Counting}
use Rattle.rom_combine.proofs.Outside.{within_state, writes_makes, writes_then}
use Rattle.rom_combine.proofs.Before.{back_before, before_counts, runs_both, twins_mutating}
use Rattle.rom_combine.proofs.Outcomes.{err_by}
use Rattle.rom_combine.proofs.Since.{becomes_by, becomes_then}
use Rattle.rom_combine.proofs.steps.begin_on.Goals as goal

pub returns-clause-before : goal.returns-clause-before
returns-clause-before g c told =
    let shown = g.D.Device.shown in
    let a = c.args.twin.now in
    let b = c.make_clean-mended.new.twin in
    let d = c.begin.new.self in
    let old : List ℕ = committed shown a in
    let begun : Runs shown (Becomes (HasBack b.order (committed shown b))) b.device d.device
    = runs_both shown 3 1 (Twins b.order (committed shown b)) (HasBack b.order (committed shown b)) b.device d.device (twins_mutating b.order (committed shown b)) (c.begin.ensures.since told) (c.begin.ensures.does.images told) in
    let second : Runs shown (Becomes (HasBack a.order old)) b.device d.device
    = subst (λ (z : ℕ × List ℕ). Runs shown (Becomes (HasBack z.0 z.1)) b.device d.device) (λ i. (c.make_clean-mended.ensures.kept.order i, c.make_clean-mended.ensures.kept.committed_is told i)) begun in
    becomes_then shown (BeforeCommit a.phase a.order old) a.device b.device d.device (c.make_clean-mended.ensures.before told)
    (becomes_by shown (HasBack a.order old) (BeforeCommit a.phase a.order old) b.device d.device (λ i. back_before a.order old i a.phase) second)

pub returns-clause-since : goal.returns-clause-since
returns-clause-since g c told =
    let a = c.args.twin.now in
    let old : List ℕ = committed g.D.Device.shown a in
    becomes_by g.D.Device.shown (BeforeCommit a.phase a.order old) (Counting a.order old) a.device c.begin.new.self.device (λ i. before_counts a.order old i a.phase c.requires.rests) (returns-clause-before g c told)

pub returns-in_err-mended-clause-since : goal.returns-in_err-mended-clause-since
returns-in_err-mended-clause-since g c told =
    let a = c.args.twin.now in
    let old : List ℕ = committed g.D.Device.shown a in
    becomes_by g.D.Device.shown (BeforeCommit a.phase a.order old) (Counting a.order old) a.device c.make_clean-mended.new.twin.device (λ i. before_counts a.order old i a.phase c.requires.rests) (c.make_clean-mended.ensures.before told)

pub returns-clause-cause : goal.returns-clause-cause
returns-clause-cause g c =
    err_by c.begin.result (λ failed. record {
      rose = omega (arith, failed.once, c.make_clean-mended.ensures.device.later);
      last = failed.last;
      images = returns-clause-before g c;
    }) c.begin.ensures.makes.cause.failed

pub returns-clause-device : goal.returns-clause-device
returns-clause-device g c =
    let shown = g.D.Device.shown in
    let a = c.args.twin.now in
    let b = c.make_clean-mended.new.twin in
    let d = c.begin.new.self in
    writes_then shown a.order a.device b.device d.device c.make_clean-mended.ensures.device
    (writes_makes shown a.order _ _ b.device d.device c.begin.result (g.met.D.Device.counts_fit b.device).3 (within_state shown a.order _ b.device d.device c.begin.ensures.does) c.begin.ensures.makes)
