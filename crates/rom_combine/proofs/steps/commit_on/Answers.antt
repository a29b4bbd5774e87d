use Rattle.std.proofs.Common.{◌≢◌, inl, inr, ⊎_elim, ℕ, List, subst, rules, ◌∙◌, ap, sym}
use Rattle.rom_model.specs.Blocks.{region_len}
use Rattle.rom_device.specs.Device.{Becomes, Runs}
use Rattle.rom_twin.specs.Images.{Committing, HasBack}
use Rattle.rom_twin.specs.Seen.{committed, main_now}
use Rattle.rom_twin.specs.declared.phase.Phase.TheVariants.{Persisted, Undo}
use Rattle.rom_rule.specs.Views.{plan_of}
use Rattle.rom_combine.specs.Images.{Committable}
use Rattle.rom_combine.proofs.Outside.{within_main, within_state, writes_makes, writes_then}
use Rattle.rom_combine.proofs.Counting.{back_region, mutating_region, copying_region, each_of}
use Rattle.rom_combine.proofs.Since.{becomes_by, becomes_then, now_since}
use Rattle.rom_combine.proofs.steps.commit_on.Goals as goal

pub returns-in_err-written-clause-since : goal.returns-in_err-written-clause-since
returns-in_err-written-clause-since g c told =
    let a = c.args.twin.now in
    let b = c.persist-written.new.self in
    let old : List ℕ = committed g.D.Device.shown a in
    becomes_by g.D.Device.shown (HasBack a.order old) (Committable b.phase a.order old (plan_of c.args.seat.now.token.me.0).main) a.device b.device (λ i is. inl (back_region a.order old i is)) (c.persist-written.ensures.since told)

pub returns-clause-since : goal.returns-clause-since
returns-clause-since g c told =
    let shown = g.D.Device.shown in
    let a = c.args.twin.now in
    let b = c.persist-written.new.self in
    let d = c.commit.new.self in
    let n : ℕ = a.order in
    let old : List ℕ = committed shown a in
    let m : List ℕ = (plan_of c.args.seat.now.token.me.0).main in
    let not_undo : d.phase ≢ Undo = search rules in
    let first = becomes_by shown (HasBack n old) (Committable d.phase n old m) a.device b.device (λ i is. inl (back_region n old i is)) (c.persist-written.ensures.since told) in
    let known : Runs shown (Becomes (Committing n old m)) b.device d.device
    = subst (λ (z : ℕ × (List ℕ × List ℕ)). Runs shown (Becomes (Committing z.0 z.1.0 z.1.1)) b.device d.device) (λ j. (c.persist-written.ensures.kept.order j, ((c.persist-written.ensures.kept.committed_is told) j, (c.in_ok-written.ensures.main told) j))) (c.commit.ensures.since told) in
    let second = becomes_by shown (Committing n old m) (Committable d.phase n old m) b.device d.device
    (λ i. ⊎_elim (λ is. inl (mutating_region n old i m is)) (λ is. inr (not_undo, copying_region n m i old is))) known in
    becomes_then shown (Committable d.phase n old m) a.device b.device d.device first second

pub returns-clause-now : goal.returns-clause-now
returns-clause-now g c told i left =
    let shown = g.D.Device.shown in
    let t = c.persist-written.new.self in
    let after = c.commit.new.self in
    let n : ℕ = t.order in
    let old : List ℕ = committed shown t in
    let m : List ℕ = main_now shown t in
    let known = c.persist-written.ensures.kept.images told in
    let start = each_of shown t Persisted c.in_ok-written.ensures.ok known in
    let not_undo : after.phase ≢ Undo = search rules in
    subst (λ (z : ℕ × (List ℕ × List ℕ)). Committable after.phase z.0 z.1.0 z.1.1 i) (λ j. (c.persist-written.ensures.kept.order j, ((c.persist-written.ensures.kept.committed_is told) j, (c.in_ok-written.ensures.main told) j)))
    (⊎_elim (λ was. inl (mutating_region n old i known.new (start i was)))
    (λ is. ⊎_elim (λ mutating. inl (mutating_region n old i m mutating)) (λ copying. inr (not_undo, copying_region n m i old copying)) is)
    (now_since shown (Committing n old m) t.device after.device (c.commit.ensures.since told) i left))

pub returns-in_err-written-clause-device : goal.returns-in_err-written-clause-device
returns-in_err-written-clause-device g c =
    let shown = g.D.Device.shown in
    let a = c.args.twin.now in
    let b = c.persist-written.new.self in
    writes_makes shown a.order _ _ a.device b.device c.persist-written.result (g.met.D.Device.counts_fit a.device).3
    (within_main shown a.order c.args.ranges.now (plan_of c.args.seat.now.token.me.0).main (c.args.seat.now.sized.0 ∙ ap (λ (n : ℕ). region_len n) (sym c.requires.order)) a.device b.device c.persist-written.ensures.puts.does)
    c.persist-written.ensures.puts.makes

pub returns-clause-device : goal.returns-clause-device
returns-clause-device g c =
    let shown = g.D.Device.shown in
    let a = c.args.twin.now in
    let b = c.persist-written.new.self in
    let d = c.commit.new.self in
    writes_then shown a.order a.device b.device d.device
    (writes_makes shown a.order _ _ a.device b.device c.persist-written.result (g.met.D.Device.counts_fit a.device).3
    (within_main shown a.order c.args.ranges.now (plan_of c.args.seat.now.token.me.0).main (c.args.seat.now.sized.0 ∙ ap (λ (n : ℕ). region_len n) (sym c.requires.order)) a.device b.device c.persist-written.ensures.puts.does)
    c.persist-written.ensures.puts.makes)
    (writes_makes shown a.order _ _ b.device d.device c.commit.result (g.met.D.Device.counts_fit b.device).3 (within_state shown a.order _ b.device d.device c.commit.ensures.does) c.commit.ensures.makes)
