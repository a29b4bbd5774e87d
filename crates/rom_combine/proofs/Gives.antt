-- One answer more is given
use Rattle.std.proofs.Common.{◌≡◌, ◌≢◌, ℕ, ◌+◌, ◌<◌, ◌≤◌, List, [], ◌∷◌, map, length, sym, refl, ap, ◌∙◌, subst, arith, Bool, true, false, cond, eqb, eq-eqb, ne_eqb, Option}
use mathlib.Core.Logic.{dite}
use mathlib.Core.Option.{some, some-injective, some-ne-none}
use native.Mathlib.Decide.{ℕ_discrete}
use lib.ListN.{get_elem?}
use Rattle.atomic_table.proofs.Lists.{at_map}
use Rattle.rom_model.specs.declared.record.Fate.{Fate}
use Rattle.rom_model.specs.declared.record.Found.{Found}
use Rattle.rom_model.specs.declared.record.PassRecord.{PassRecord}
use Rattle.rom_rule.specs.declared.views.Base.{Base}
use Rattle.rom_rule.specs.declared.views.Request.{Request}
use Rattle.rom_rule.specs.declared.views.Plan.{Plan}
use Rattle.rom_rule.specs.Views.{Each, is_made}
use Rattle.rom_rule.specs.Calls.{AreScanned, answer_words, caller_in, found_of, packed}
use Rattle.rom_rule.specs.CallKinds.{CanMakeRecord, alter, altered}
use Rattle.rom_rule.specs.Kinds.{record_list}
use Rattle.rom_rule.proofs.Told.{map_map, map_alike, at_mapped, at_low, length_map, scanned_one, scanned_at}
use Rattle.rom_announce.specs.Answering.{CanAnswer, HasRecord, undone, fate_of_place, answered_with}
use Rattle.rom_announce.proofs.Recording.{recorded_same, answer_in}
use Rattle.rom_combine.specs.declared.answering.CallAnswer.{CallAnswer}
use Rattle.rom_combine.specs.Scanning.{but_requests}
use Rattle.rom_combine.specs.Answering.{caller_of, HasGiven, IsRecordedBy, SameCalls}

pub made_some : (fs : List Found) (r : PassRecord) (j : ℕ) (y : Found) → get_elem? fs j ≡ some y → is_made (record_list fs r) ≡ true
made_some [] r j y e = absurd (some-ne-none y (sym e))
made_some (f ∷ fs) r j y e = refl

module _ (c : ℕ) (g : Request → Request) where
  here_is : (f : Request) → f.caller ≡ c → alter c g f ≡ g f
  here_is f e = ap (λ (t : Bool). cond t (g f) f) (eq-eqb f.caller c e)

  else_is : (f : Request) → f.caller ≢ c → alter c g f ≡ f
  else_is f ne = ap (λ (t : Bool). cond t (g f) f) (ne_eqb f.caller c ne)

  callers_same : (fs : List Request) → ((f : Request) → (g f).caller ≡ f.caller) → map caller_in (map (alter c g) fs) ≡ map caller_in fs
  callers_same fs same = map_map caller_in (alter c g) fs ∙ map_alike (λ f. caller_in (alter c g f)) caller_in fs (λ f. by_case f (eqb f.caller c))
    where
      by_case : (f : Request) (t : Bool) → (cond t (g f) f).caller ≡ f.caller
      by_case f true = same f
      by_case f false = refl

  founds_same : (fs : List Request) → ((f : Request) → found_of (g f) ≡ found_of f) → map found_of (map (alter c g) fs) ≡ map found_of fs
  founds_same fs same = map_map found_of (alter c g) fs ∙ map_alike (λ f. found_of (alter c g f)) found_of fs (λ f. by_case f (eqb f.caller c))
    where
      by_case : (f : Request) (t : Bool) → found_of (cond t (g f) f) ≡ found_of f
      by_case f true = same f
      by_case f false = refl

module _ {S : Type 0} (Contents : ℕ → List ℕ → S → ℕ → Type 0) (step : ℕ → S → ℕ → List ℕ → Option (S × List ℕ)) (b : Base) (fate : Fate) (faults now : ℕ) (items : List CallAnswer) where
  -- the find of the next answer
  pub next_request : (p : Plan) (i : ℕ) (x : CallAnswer) → HasGiven Contents step b fate faults now p i items → get_elem? items i ≡ some x → (f : Request) × (get_elem? p.requests i ≡ some f) × (f.caller ≡ x.caller) × (0 < f.caller) × (f.caller ≤ b.callers)
  next_request p i x l at = let m = at_mapped caller_in p.requests i x.caller (ap (λ (cs : List ℕ). get_elem? cs i) l.same ∙ at_map caller_of items i x at) in let s = scanned_at 0 b.callers (map caller_in p.requests) i m.0.caller l.rising (at_map caller_in p.requests i m.0 m.1) in
      (m.0, m.1, m.2, s.0, s.1)

  recorded_made : (p q : Plan) (j : ℕ) (f : Request) → HasRecord Contents step b p q fate faults now → get_elem? p.requests j ≡ some f → is_made q.mine ≡ true
  recorded_made p q j f h at = by_record (is_made p.mine) refl
    where
      by_record : (t : Bool) → is_made p.mine ≡ t → is_made q.mine ≡ true
      by_record true e = ap (λ (z : Plan). is_made z.mine) (h.0 e) ∙ e
      by_record false e = let m = h.1 e in ap (λ (z : Plan). is_made z.mine) m.4 ∙ made_some (map found_of p.requests) _ j (found_of f) (at_map found_of p.requests j f at)

  -- another call's answer may still be given
  answer_on : (p q : Plan) (c place j : ℕ) (laid : List ℕ) (f : Request) (x : CallAnswer) → HasRecord Contents step b p q fate faults now → get_elem? p.requests j ≡ some f → f.answered ≡ false → fate_of_place x.place ≡ fate → CanAnswer Contents step b p f x.place x.reply faults now
      → CanAnswer Contents step b (altered c (answered_with place laid) q) f x.place x.reply faults now
  answer_on p q c place j laid f x h at pending same can = (
    (λ _. let a = answer_in Contents step b p fate faults now q f.caller f x.place x.reply h (j, at, refl, pending) can.0 (λ e. subst (λ (z : Fate). CanMakeRecord Contents step b p z faults now × (answer_words (undone z) ≡ x.place ∷ packed x.reply)) same (can.1 e)) in (a.0, a.1, a.2)),
    (λ e. absurd (let z : true ≡ false = sym (recorded_made p q j f h at) ∙ e in cc)),
  )

  pub one_given : (p q : Plan) (i : ℕ) (f : Request) (x : CallAnswer) (laid : List ℕ) → HasGiven Contents step b fate faults now p i items → get_elem? p.requests i ≡ some f → f.caller ≡ x.caller → HasRecord Contents step b p q fate faults now
      → HasGiven Contents step b fate faults now (altered x.caller (answered_with x.place laid) q) (i + 1) items
  one_given p q i f x laid l at who h = let c : ℕ = x.caller in let g : Request → Request = answered_with x.place laid in let requests : q.requests ≡ p.requests = (recorded_same Contents step b p fate faults now q h).0 in
      let callers : map caller_in (map (alter c g) q.requests) ≡ map caller_in p.requests = callers_same c g q.requests (λ _. refl) ∙ ap (map caller_in) requests in record {
        rising = subst (AreScanned 0 b.callers) (sym callers) l.rising;
        same = callers ∙ l.same;
        done = λ j a e lt. let m = at_mapped (alter c g) q.requests j a e in let old : get_elem? p.requests j ≡ some m.0 = subst (λ (fs : List Request). get_elem? fs j ≡ some m.0) requests m.1 in
            subst (λ (y : Request). y.answered ≡ true) m.2 (dite (ℕ_discrete m.0.caller c) (λ is. ap (λ (y : Request). y.answered) (here_is c g m.0 is))
            (λ ne. ap (λ (y : Request). y.answered) (else_is c g m.0 ne) ∙ l.done j m.0 old (dite (ℕ_discrete j i) (λ e'. absurd (ne (ap (λ (y : Request). y.caller) (some-injective m.0 f (sym old ∙ (ap (get_elem? p.requests) e' ∙ at))) ∙ who))) (λ ne'. omega arith))));
        left = λ j a y le e at'. let m = at_mapped (alter c g) q.requests j a e in let old : get_elem? p.requests j ≡ some m.0 = subst (λ (fs : List Request). get_elem? fs j ≡ some m.0) requests m.1 in
            let ne : m.0.caller ≢ c = (λ is. let same_place = scanned_one 0 b.callers (map caller_in p.requests) j i c l.rising (at_map caller_in p.requests j m.0 old ∙ ap some is) (at_map caller_in p.requests i f at ∙ ap some who) in omega arith) in
            let is : m.0 ≡ a = sym (else_is c g m.0 ne) ∙ m.2 in let k = l.left j m.0 y (omega arith) old at' in
            subst (λ (z : Request). (z.answered ≡ false) × (fate_of_place y.place ≡ fate) × CanAnswer Contents step b (altered c g q) z y.place y.reply faults now) is (k.0, k.1, answer_on p q c x.place j laid m.0 y h old k.0 k.1 k.2);
      }

  recorded_scanned : (p q : Plan) → HasRecord Contents step b p q fate faults now → q.scanned ≡ p.scanned
  recorded_scanned p q h = by_record (is_made p.mine) refl
    where
      by_record : (t : Bool) → is_made p.mine ≡ t → q.scanned ≡ p.scanned
      by_record true e = ap (λ (z : Plan). z.scanned) (h.0 e)
      by_record false e = ap (λ (z : Plan). z.scanned) (h.1 e).4

  -- an answer changes no found call
  pub calls_on : (o p q u : Plan) (x : CallAnswer) (laid : List ℕ) → SameCalls o p → HasRecord Contents step b p q fate faults now → u ≡ altered x.caller (answered_with x.place laid) q → SameCalls o u
  calls_on o p q u x laid old h is = (
    ap (λ (z : Plan). z.scanned) is ∙ (recorded_scanned p q h ∙ old.0),
    ap (λ (z : Plan). map found_of z.requests) is ∙ (founds_same x.caller (answered_with x.place laid) q.requests (λ _. refl) ∙ (ap (map found_of) (recorded_same Contents step b p fate faults now q h).0 ∙ old.1)),
  )

  -- which record the answers so far have made: the first makes it, and the others keep it
  pub recorded_on : (o p q u : Plan) (i : ℕ) (f : Request) (x : CallAnswer) (laid : List ℕ) → (i ≡ 0 → p ≡ o) → (0 < i → IsRecordedBy Contents step b o p faults now items) → get_elem? items i ≡ some x → get_elem? p.requests i ≡ some f → fate_of_place x.place ≡ fate
      → HasRecord Contents step b p q fate faults now → u ≡ altered x.caller (answered_with x.place laid) q → IsRecordedBy Contents step b o u faults now items
  recorded_on o p q u i f x laid first later at found same h is y at₀ = dite (ℕ_discrete i 0)
      (λ zero. let one : x ≡ y = some-injective x y (sym at ∙ (ap (get_elem? items) zero ∙ at₀)) in
      (q, subst (λ (z : Plan × Fate). HasRecord Contents step b z.0 q z.1 faults now) (λ j. (first zero j, (sym same ∙ ap (λ (g : CallAnswer). fate_of_place g.place) one) j)) h, recorded_made p q i f h found, ap but_requests is))
      (λ more. let old = later (omega arith) y at₀ in let made : is_made p.mine ≡ true = ap (λ (z : Plan). is_made z.mine) old.3 ∙ old.2 in
      (old.0, old.1, old.2, ap but_requests is ∙ (ap but_requests (h.0 made) ∙ old.3)))

  pub all_given : (p : Plan) (i : ℕ) → HasGiven Contents step b fate faults now p i items → length items ≤ i → Each (λ _ f. f.answered ≡ true) p.requests
  all_given p i l le j f e = let lt = at_low p.requests j f e in l.done j f e (omega (arith, ap length l.same, length_map caller_in p.requests, length_map caller_of items))
