-- One caller more is scanned
use Rattle.std.proofs.Common.{◌≡◌, ℕ, zero, suc, ◌+◌, ◌<◌, ◌≤◌, List, [], ◌∷◌, ◌++◌, map, length, sym, refl, ap, ◌∙◌, subst, arith, Bool, cond, eq-eqb, ne_eqb, length-append, append-nil}
use mathlib.Core.Option.{some-injective, some-ne-none}
use Rattle.rom_rule.specs.declared.views.Request.{Request}
use Rattle.rom_rule.specs.declared.views.Plan.{Plan}
use Rattle.rom_rule.specs.Views.{Each}
use Rattle.rom_rule.specs.Calls.{AreScanned, caller_in}
use Rattle.rom_rule.specs.CallKinds.{alter, beginning}
use Rattle.rom_rule.proofs.Told.{map_append, length_map, scanned_up, scanned_more}
use Rattle.rom_combine.specs.declared.scanning.Posted.{Posted}
use Rattle.rom_combine.specs.Scanning.{posted_of, IsUnanswered, IsVisit, IsScan}

each_join : {A : Type 0} (Q : A → Type 0) (xs ys : List A) → Each (λ _. Q) xs → Each (λ _. Q) ys → Each (λ _. Q) (xs ++ ys)
each_join Q [] ys h g j a e = g j a e
each_join Q (x ∷ xs) ys h g zero a e = h 0 a e
each_join Q (x ∷ xs) ys h g (suc j) a e = each_join Q xs ys (λ i b z. h (suc i) b z) g j a e

-- calls of other callers stay, where the call of caller c changes
pub others_stay : (c : ℕ) (g : Request → Request) (fs : List Request) (f : Request) → Each (λ _ h. h.caller < c) fs → f.caller ≡ c → map (alter c g) (fs ++ f ∷ []) ≡ fs ++ g f ∷ []
others_stay c g [] f h e = ap (λ (t : Bool). cond t (g f) f ∷ []) (eq-eqb f.caller c e)
others_stay c g (x ∷ fs) f h e = let low = h 0 x refl in let here : alter c g x ≡ x = ap (λ (t : Bool). cond t (g x) x) (ne_eqb x.caller c (λ z. omega arith)) in let rest = others_stay c g fs f (λ j y z. h (suc j) y z) e in λ i. here i ∷ rest i

-- the callers still rise
rise_on : (last c : ℕ) (fs more : List Request) → AreScanned 0 last (map caller_in fs) → last < c → length more ≤ 1 → Each (λ _ f. f.caller ≡ c) more → AreScanned 0 c (map caller_in (fs ++ more))
rise_on last c fs [] h lt few own = subst (λ (l : List Request). AreScanned 0 c (map caller_in l)) (sym (append-nil fs)) (scanned_up 0 last c (map caller_in fs) h (omega arith))
rise_on last c fs (f ∷ []) h lt few own = subst (AreScanned 0 c) (sym (map_append caller_in fs (f ∷ []) ∙ ap (λ (n : ℕ). map caller_in fs ++ n ∷ []) (own 0 f refl))) (scanned_more 0 last c (map caller_in fs) h lt)
rise_on last c fs (f ∷ g ∷ more) h lt few own = absurd (omega arith)

module _ (P : List ℕ → Type 0) where
  pub visited_one : (p q : Plan) (c : ℕ) (f : Request) (old new : List Posted) → f.caller ≡ c → IsUnanswered P f → q ≡ record p { scanned = c; requests = p.requests ++ f ∷ [] } → new ≡ old ++ posted_of f ∷ [] → IsVisit P p q c old new
  visited_one p q c f old new who fresh is items = subst (λ (z : Plan). IsVisit P p z c old new) (sym is) record {
    scanned = refl;
    rest = refl;
    more = f ∷ [];
    few = omega arith;
    own = own;
    requests = refl;
    items = items;
  }
    where
      own : Each (λ _ g. (g.caller ≡ c) × IsUnanswered P g) (f ∷ [])
      own zero g e = subst (λ (h : Request). (h.caller ≡ c) × IsUnanswered P h) (some-injective f g e) (who, fresh)
      own (suc j) g e = absurd (some-ne-none g (sym e))

  pub visited_none : (p q : Plan) (c : ℕ) (old : List Posted) → q ≡ record p { scanned = c; requests = p.requests } → IsVisit P p q c old old
  visited_none p q c old is = subst (λ (z : Plan). IsVisit P p z c old old) (sym is) record {
    scanned = refl;
    rest = refl;
    more = [];
    few = omega arith;
    own = λ j g e. absurd (some-ne-none g (sym e));
    requests = sym (append-nil p.requests);
    items = sym (append-nil old);
  }

  pub scan_first : (p q : Plan) (new : List Posted) → IsVisit P (beginning p) q 1 [] new → IsScan P p q 1 new
  scan_first p q new v = let requests : q.requests ≡ v.more = v.requests in let few = v.few in record {
    scanned = v.scanned;
    rest = v.rest;
    fresh = subst (λ (l : List Request). Each (λ _ f. (f.caller ≤ 1) × IsUnanswered P f) l) (sym requests) (λ j f e. let o = v.own j f e in let o₀ = o.0 in (omega arith, o.1));
    rising = subst (λ (l : List Request). AreScanned 0 1 (map caller_in l)) (sym requests) (rise_on 0 1 [] v.more (omega arith) (omega arith) v.few (λ j f e. (v.own j f e).0));
    items_are = v.items ∙ ap (map posted_of) (sym requests);
    few = omega (arith, ap length v.items, length_map posted_of v.more);
  }

  pub scan_next : (p q q' : Plan) (c : ℕ) (old new : List Posted) → IsScan P p q c old → IsVisit P q q' (c + 1) old new → IsScan P p q' (c + 1) new
  scan_next p q q' c old new s v = let few = v.few in let few' = s.few in record {
    scanned = v.scanned;
    rest = v.rest ∙ s.rest;
    fresh = subst (λ (l : List Request). Each (λ _ f. (f.caller ≤ c + 1) × IsUnanswered P f) l) (sym v.requests) (each_join (λ f. (f.caller ≤ c + 1) × IsUnanswered P f) q.requests v.more (λ j f e. let o = s.fresh j f e in let o₀ = o.0 in (omega arith, o.1)) (λ j f e. let o = v.own j f e in let o₀ = o.0 in (omega arith, o.1)));
    rising = subst (λ (l : List Request). AreScanned 0 (c + 1) (map caller_in l)) (sym v.requests) (rise_on c (c + 1) q.requests v.more s.rising (omega arith) v.few (λ j f e. (v.own j f e).0));
    items_are = v.items ∙ (ap (λ (l : List Posted). l ++ map posted_of v.more) s.items_are ∙ (sym (map_append posted_of q.requests v.more) ∙ ap (map posted_of) (sym v.requests)));
    few = omega (arith, ap length v.items, length-append old (map posted_of v.more), length_map posted_of v.more);
  }
