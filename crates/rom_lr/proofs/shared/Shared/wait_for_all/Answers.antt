use Rattle.std.proofs.Common.{◌≡◌, ℕ, ◌+◌, sym, ap, ◌∙◌}
use Rattle.rom_rule.specs.Kinds.{observed}
use Rattle.rom_rule.specs.Places.{indicator_of}
use Rattle.rom_rule.specs.Views.{plan_of}
use Rattle.rom_rule.specs.declared.views.Plan.{Plan}
use Rattle.rom_rule.specs.declared.views.View.{View}
use Rattle.rom_lr.specs.Writing.{plan_after_wait}
use Rattle.rom_lr.proofs.Waiting.{go_on, one_more}
use Rattle.rom_lr.proofs.shared.Shared.wait_for_all.Goals as goal

pub loop-i-preserved : goal.loop-i-preserved
loop-i-preserved g c = let kept = c.loop-i.invariant in let did = c.wait_for.ensures.waited in let u : View = c.args.seat.now.token.me.0 in let v : View = c.loop-i.seat.token.me.0 in let w : View = c.wait_for.new.seat.token.me.0 in
    let p : Plan = plan_of u in let q : Plan = observed (indicator_of (c.loop-i.i + 1) c.args.version) 0 (plan_of v) in
    let same : q ≡ plan_after_wait c.args.version (c.loop-i.i + 1) p = ap (λ (z : Plan). observed (indicator_of (c.loop-i.i + 1) c.args.version) 0 z) (ap plan_of kept.2) ∙ one_more c.args.version c.loop-i.i p in (
      did.0 ∙ kept.0,
      did.1 ∙ kept.1,
      go_on u v w (plan_after_wait c.args.version c.loop-i.i p) q kept.2 did.2 ∙ ap (λ (z : Plan). let y : View = record u { plan = Rattle.std.proofs.Common.Some z; steps = w.steps } in y) same,
    )
