use Rattle.rom_model.specs.Machine.{on_words}
use Rattle.std.proofs.Common.{arith, ◌≡◌, inl, ℕ, ◌+◌, ◌≤◌, List, sym, ap, ◌∙◌, subst}
use mathlib.Core.Option.{some, some-ne-none}
use lib.ListN.{get_elem?}
use Rattle.rom_header.specs.Regions.{IsCurrentRegion}
use Rattle.rom_combine.proofs.Counting.{after_region}
use Rattle.rom_combine.proofs.Failing.{clean_needs_none}
use Rattle.rom_lr.proofs.Waiting.{has_below}
use Rattle.rom_model.specs.Passes.{faults_after}
use Rattle.rom_rule.specs.declared.views.Base.{Base}
use Rattle.rom_rule.specs.declared.views.Request.{Request}
use Rattle.rom_rule.specs.declared.views.Plan.{Plan}
use Rattle.rom_rule.specs.declared.views.View.{View}
use Rattle.rom_rule.specs.Places.{indicator_count}
use Rattle.rom_rule.specs.Views.{has, plan_of, records_of}
use Rattle.rom_rule.specs.Readers.{Held}
use Rattle.rom_combine.proofs.locked.Core.new.Goals as goal

pub invariant_of-result : goal.invariant_of-result
invariant_of-result g c = let v : View = c.args.seat.token.me.0 in let b : Base = v.base in let h = c.requires.formed in let p : Plan = plan_of v in let op = c.requires.opening in let t = c.args.twin in
    let held : Held g.O.Object.Contents (on_words g.O.Object.machine) b h.0 h.1 p.main p.history = subst (λ (z : Plan). Held g.O.Object.Contents (on_words g.O.Object.machine) b h.0 h.1 z.main z.history) (sym op)
    (subst (λ (k : ℕ). g.O.Object.Contents b.order b.image h.0 k) (let e : h.1 ≡ h.1 + 0 = omega arith in e) h.2) in
    let main : p.main ≡ b.image = ap (λ (z : Plan). z.main) op in (
      record {
        order_is = c.requires.order;
        order_fits = c.requires.order_fits;
        side_is = ap (λ (z : Plan). z.side) op;
        settled = λ k lt. ap (λ (z : Plan). has k z.clear) op ∙ has_below (indicator_count b.callers) k lt;
        same = main ∙ sym (ap (λ (z : Plan). z.back) op);
        start = h.0;
        count = h.1;
        opening = h.2;
        held = held;
        rests = inl c.requires.phase;
        committed_is = λ told. c.requires.committed told ∙ sym main;
        images = λ told i left. let counts = after_region g.D.Device.shown t (inl c.requires.phase) (g.met.D.Device.reads_image t.device told) (c.phase.ensures.images told) i left in
            inl (record { region = p.main; current = subst (λ (z : ℕ × List ℕ). IsCurrentRegion z.0 i z.1) (λ j. (c.requires.order j, (c.requires.committed told ∙ sym main) j)) counts; contents = held });
        failed = λ needs. absurd (clean_needs_none t.phase c.requires.phase needs);
        answered = λ j f e. absurd (some-ne-none f (sym (subst (λ (l : List Request). get_elem? l j ≡ some f) (ap (λ (z : Plan). z.requests) op) e)));
        counts = subst (λ (z : Plan). faults_after b.faults (records_of z) ≤ g.D.Device.shown.faults t.device) (sym op) c.requires.faults;
      },
      c.requires.ready,
    )
