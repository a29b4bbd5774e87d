use Rattle.rom_model.specs.Machine.{on_words}
use Rattle.std.proofs.Common.{arith, ◌≡◌, ◌≢◌, ℕ, ◌+◌, ◌<◌, List, sym, ap, ◌∙◌, subst, Bool, cond, ne_eqb}
use Rattle.rom_rule.specs.declared.views.Base.{Base}
use Rattle.rom_rule.specs.declared.views.Plan.{Plan}
use Rattle.rom_rule.specs.declared.views.View.{View}
use Rattle.rom_rule.specs.Views.{Each, plan_of}
use Rattle.rom_rule.specs.Records.{IsCall}
use Rattle.rom_rule.specs.CallKinds.{beginning}
use Rattle.rom_announce.specs.Scanning.{scanned_from}
use Rattle.rom_announce.proofs.Altered.{writes_chain}
use Rattle.rom_combine.specs.declared.scanning.Posted.{Posted}
use Rattle.rom_combine.specs.Scanning.{IsVisit, IsScan}
use Rattle.rom_combine.proofs.Scans.{scan_first, scan_next}
use Rattle.rom_combine.proofs.scanning.scan.Goals as goal

-- past caller 1 the pass goes on
goes_on : (c : ℕ) (p : Plan) → c ≢ 1 → scanned_from c p ≡ p
goes_on c p ne = ap (λ (t : Bool). cond t (beginning p) p) (ne_eqb c 1 ne)

pub loop-caller-init : goal.loop-caller-init
loop-caller-init g c = let u : View = c.args.seat.now.token.me.0 in (
  1,
  omega arith,
  scan_first (IsCall (on_words g.O.Object.machine) u.base) (plan_of u) (plan_of c.visit.new.seat.token.me.0) c.visit.new.found.items
      (subst (λ (l : List Posted). IsVisit (IsCall (on_words g.O.Object.machine) u.base) (beginning (plan_of u)) (plan_of c.visit.new.seat.token.me.0) 1 l c.visit.new.found.items) c.clear.ensures c.visit.ensures.visited),
  c.visit.ensures.same,
)

pub visit-requires-in-loop-caller-clause-others : goal.visit-requires-in-loop-caller-clause-others
visit-requires-in-loop-caller-clause-others g c = let inv = c.loop-caller.invariant in let s = inv.2 in let next = inv.1 in
    subst (λ (z : Plan). Each (λ _ f. f.caller < c.loop-caller.caller) z.requests) (sym (goes_on c.loop-caller.caller (plan_of c.loop-caller.seat.token.me.0) (λ e. omega (arith, c.loop-caller.auto.caller)))) (λ j f e. let o = s.fresh j f e in let o₀ = o.0 in omega arith)

pub loop-caller-preserved : goal.loop-caller-preserved
loop-caller-preserved g c = let inv = c.loop-caller.invariant in let last : ℕ = inv.0 in let next = inv.1 in let u : View = c.args.seat.now.token.me.0 in let v : View = c.loop-caller.seat.token.me.0 in let w : View = c.visit-in-loop-caller.new.seat.token.me.0 in
    let same = c.visit-in-loop-caller.ensures.same in let base : v.base ≡ u.base = ap (λ (z : View). z.base) inv.3.2 in let on : scanned_from c.loop-caller.caller (plan_of v) ≡ plan_of v = goes_on c.loop-caller.caller (plan_of v) (λ e. omega (arith, c.loop-caller.auto.caller)) in (
      last + 1,
      omega arith,
      scan_next (IsCall (on_words g.O.Object.machine) u.base) (plan_of u) (plan_of v) (plan_of w) last c.loop-caller.found.items c.visit-in-loop-caller.new.found.items inv.2
          (subst (λ (z : Base × Plan × ℕ). IsVisit (IsCall (on_words g.O.Object.machine) z.0) z.1 (plan_of w) z.2 c.loop-caller.found.items c.visit-in-loop-caller.new.found.items) (λ i. (base i, on i, sym next i)) c.visit-in-loop-caller.ensures.visited),
      (same.0 ∙ inv.3.0, same.1 ∙ inv.3.1, writes_chain u v w (plan_of v) (plan_of w) inv.3.2 same.2),
    )

pub returns-clause-scanned : goal.returns-clause-scanned
returns-clause-scanned g c = let inv = c.loop-caller.invariant in let u : View = c.args.seat.now.token.me.0 in let next = inv.1 in let many = c.callers-caller-end.ensures.is in
    subst (λ (n : ℕ). IsScan (IsCall (on_words g.O.Object.machine) u.base) (plan_of u) (plan_of c.loop-caller.seat.token.me.0) n c.loop-caller.found.items) (let e : inv.0 ≡ c.args.shared.now.layout.callers = omega (arith, c.loop-caller-test.false, c.loop-caller.auto.caller) in e) inv.2
