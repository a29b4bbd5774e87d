use Rattle.rom_model.specs.Machine.{on_words}
use Rattle.std.proofs.Common.{◌≡◌, ℕ, ◌/◌, ◌%◌, List, [], ◌∷◌, ◌++◌, length, sym, refl, ap, ◌∙◌, subst, Bool, true, false, cond, eqb}
use mathlib.Core.Option.{some}
use lib.ListN.{get_elem?}
use Rattle.atomic_table.proofs.Lists.{at_last}
use Rattle.rom_rule.specs.declared.views.Base.{Base}
use Rattle.rom_rule.specs.declared.views.Request.{Request}
use Rattle.rom_rule.specs.declared.views.Plan.{Plan}
use Rattle.rom_rule.specs.declared.views.View.{View}
use Rattle.rom_rule.specs.Calls.{packed}
use Rattle.rom_rule.specs.Views.{plan_of}
use Rattle.rom_rule.specs.Records.{IsCall}
use Rattle.rom_rule.specs.CallKinds.{altered}
use Rattle.rom_announce.specs.Scanning.{scanned_from, with_words}
use Rattle.rom_combine.proofs.Scans.{others_stay, visited_none, visited_one}
use Rattle.rom_combine.proofs.scanning.visit.Goals as goal

abbrev new_find : ℕ → ℕ → Request
new_find c turn = record { caller = c; seq = turn / 2; words = []; laid = []; place = []; answered = false }

pub find-requires-clause-posted : goal.find-requires-clause-posted
find-requires-clause-posted g c = let sc = c.posted.ensures.scanned in let p : Plan = scanned_from c.args.caller (plan_of c.args.seat.now.token.me.0) in let f : Request = new_find c.args.caller sc.0 in
    let odd : eqb (sc.0 % 2) 1 ≡ true = sym sc.1 ∙ c.if-posted.true in
    let now : plan_of c.posted.new.seat.token.me.0 ≡ record p { scanned = c.args.caller; requests = p.requests ++ f ∷ [] } = ap plan_of sc.2.2 ∙ ap (λ (t : Bool). record p { scanned = c.args.caller; requests = cond t (p.requests ++ f ∷ []) p.requests }) odd in
    (f, (length p.requests, subst (λ (z : Plan). get_elem? z.requests (length p.requests) ≡ some f) (sym now) (at_last p.requests f (length p.requests) refl), refl, refl))

pub returns-then-posted-clause-visited : goal.returns-then-posted-clause-visited
returns-then-posted-clause-visited g c = let sc = c.posted.ensures.scanned in let u : View = c.args.seat.now.token.me.0 in let p : Plan = scanned_from c.args.caller (plan_of u) in let f : Request = new_find c.args.caller sc.0 in let fd = c.find.ensures.found in let a : List ℕ = fd.0 in
    let odd : eqb (sc.0 % 2) 1 ≡ true = sym sc.1 ∙ c.if-posted.true in
    let now : plan_of c.posted.new.seat.token.me.0 ≡ record p { scanned = c.args.caller; requests = p.requests ++ f ∷ [] } = ap plan_of sc.2.2 ∙ ap (λ (t : Bool). record p { scanned = c.args.caller; requests = cond t (p.requests ++ f ∷ []) p.requests }) odd in
    let after : plan_of c.find.new.seat.token.me.0 ≡ record p { scanned = c.args.caller; requests = p.requests ++ with_words (packed a) f ∷ [] }
    = ap plan_of fd.2.2 ∙ (ap (altered c.args.caller (with_words (packed a))) now ∙ ap (λ (l : List Request). record p { scanned = c.args.caller; requests = l }) (others_stay c.args.caller (with_words (packed a)) p.requests f c.requires.others refl)) in
    visited_one (IsCall (on_words g.O.Object.machine) u.base) p _ c.args.caller (with_words (packed a) f) _ _ refl (refl, refl, subst (λ (z : Base). IsCall (on_words g.O.Object.machine) z a) (ap (λ (v : View). v.base) sc.2.2) fd.1) after fd.3

pub returns-else-posted-clause-visited : goal.returns-else-posted-clause-visited
returns-else-posted-clause-visited g c = let sc = c.posted.ensures.scanned in let u : View = c.args.seat.now.token.me.0 in let p : Plan = scanned_from c.args.caller (plan_of u) in let f : Request = new_find c.args.caller sc.0 in
    let even : eqb (sc.0 % 2) 1 ≡ false = sym sc.1 ∙ c.if-posted.false in
    visited_none (IsCall (on_words g.O.Object.machine) u.base) p _ c.args.caller _ (ap plan_of sc.2.2 ∙ ap (λ (t : Bool). record p { scanned = c.args.caller; requests = cond t (p.requests ++ f ∷ []) p.requests }) even)
