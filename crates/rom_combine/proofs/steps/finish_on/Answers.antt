use Rattle.std.proofs.Common.{ℕ, List, subst, ◌∙◌, ap, sym}
use Rattle.rom_model.specs.Blocks.{region_len}
use Rattle.rom_device.specs.Device.{Becomes, Runs}
use Rattle.rom_twin.specs.Images.{HasMain, Twins}
use Rattle.rom_rule.specs.Views.{plan_of}
use Rattle.rom_combine.specs.Costs.{WritesHeap}
use Rattle.rom_combine.specs.Images.{Counting}
use Rattle.rom_combine.proofs.Outside.{within_back, within_state, writes_counts, writes_makes, writes_then}
use Rattle.rom_combine.proofs.Counting.{main_region, twins_region}
use Rattle.rom_combine.proofs.Since.{becomes_by, becomes_then}
use Rattle.rom_combine.proofs.steps.finish_on.Goals as goal

pub returns-clause-since : goal.returns-clause-since
returns-clause-since g c told =
    let shown = g.D.Device.shown in
    let a = c.args.twin.now in
    let b = c.copy-copied.new.self in
    let d = c.finish.new.self in
    let n : ℕ = a.order in
    let m : List ℕ = (plan_of c.args.seat.now.token.me.0).main in
    let first = becomes_by shown (HasMain n m) (Counting n m) a.device b.device (λ i. main_region n m i) (c.copy-copied.ensures.since told) in
    let twins : Runs shown (Becomes (Twins n m)) b.device d.device
    = subst (λ (z : ℕ × List ℕ). Runs shown (Becomes (Twins z.0 z.1)) b.device d.device) (λ j. (c.copy-copied.ensures.kept.order j, c.copy-copied.ensures.kept.committed_is told j)) (c.finish.ensures.since told) in
    becomes_then shown (Counting n m) a.device b.device d.device first (becomes_by shown (Twins n m) (Counting n m) b.device d.device (λ i. twins_region n m i) twins)

pub returns-then-is_err-clause-since : goal.returns-then-is_err-clause-since
returns-then-is_err-clause-since g c told =
    let n : ℕ = c.args.twin.now.order in
    let m : List ℕ = (plan_of c.args.seat.now.token.me.0).main in
    becomes_by g.D.Device.shown (HasMain n m) (Counting n m) c.args.twin.now.device c.copy-copied.new.self.device (λ i. main_region n m i) (c.copy-copied.ensures.since told)

pub returns-then-is_err-clause-device : goal.returns-then-is_err-clause-device
returns-then-is_err-clause-device g c =
    let shown = g.D.Device.shown in
    let a = c.args.twin.now in
    let b = c.copy-copied.new.self in
    writes_makes shown a.order _ _ a.device b.device c.copy-copied.result (g.met.D.Device.counts_fit a.device).3
    (within_back shown a.order c.args.ranges.now (plan_of c.args.seat.now.token.me.0).main (c.args.seat.now.sized.0 ∙ ap (λ (n : ℕ). region_len n) (sym c.requires.order)) a.device b.device c.copy-copied.ensures.puts.does)
    c.copy-copied.ensures.puts.makes

pub returns-clause-device : goal.returns-clause-device
returns-clause-device g c =
    let shown = g.D.Device.shown in
    let a = c.args.twin.now in
    let b = c.copy-copied.new.self in
    let d = c.finish.new.self in
    let back : WritesHeap shown a.order a.device b.device = writes_makes shown a.order _ _ a.device b.device c.copy-copied.result (g.met.D.Device.counts_fit a.device).3
    (within_back shown a.order c.args.ranges.now (plan_of c.args.seat.now.token.me.0).main (c.args.seat.now.sized.0 ∙ ap (λ (n : ℕ). region_len n) (sym c.requires.order)) a.device b.device c.copy-copied.ensures.puts.does)
    c.copy-copied.ensures.puts.makes in
    writes_then shown a.order a.device b.device d.device back
    (writes_counts shown a.order 1 0 b.device d.device c.finish.result (g.met.D.Device.counts_fit b.device).3 (within_state shown a.order _ b.device d.device c.finish.ensures.does) c.finish.ensures.counts)
