-- The plan with this pass's record
use Rattle.std.proofs.Common.{◌≡◌, ℕ, zero, suc, ◌<◌, List, [], ◌∷◌, map, sym, refl, ap, ◌∙◌, subst, arith, Option, Bool, true, false}
use mathlib.Core.Option.{some, some-injective, some-ne-none}
use lib.ListN.{get_elem?}
use Rattle.atomic_table.specs.Table.{Step, Me}
use Rattle.atomic_table.proofs.Lists.{at_map}
use Rattle.rom_model.specs.declared.entry.Entry.{Entry}
use Rattle.rom_model.specs.declared.record.Fate.{Fate}
use Rattle.rom_model.specs.declared.record.Fate.TheVariants.{Published, Failed, Doubt}
use Rattle.rom_model.specs.declared.record.Found.{Found}
use Rattle.rom_model.specs.declared.call.Updated.{Updated}
use Rattle.rom_model.specs.declared.call.Updated.TheVariants as told
use Rattle.rom_model.specs.History.{after}
use Rattle.rom_model.specs.Passes.{batch_told, fate_told}
use Rattle.rom_announce.specs.Answering.{HasRecord, undone}
use Rattle.rom_rule.specs.CallKinds.{CanMakeRecord, IsAnswerToRequest, IsPending, altered, begun_answer, laying}
use Rattle.rom_rule.specs.Calls.{answer_words, found_of, packed}
use Rattle.rom_rule.specs.Kinds.{making, planned}
use Rattle.rom_rule.specs.Places.{slot_at}
use Rattle.rom_rule.specs.Views.{Told, is_made, plan_of}
use Rattle.rom_rule.specs.declared.views.Base.{Base}
use Rattle.rom_rule.specs.declared.views.Plan.{Plan}
use Rattle.rom_rule.specs.declared.views.Request.{Request}
use Rattle.rom_rule.specs.declared.views.View.{View}
use Rattle.rom_rule.proofs.Books.{full_batch}

abbrev Seated : Type 0
Seated = Me ℕ View

-- of a pass that added nothing, what it tells each found call
told_nothing : (k q : ℕ) (fs : List Found) (f : Found) → get_elem? fs q ≡ some f → get_elem? (batch_told k fs []) q ≡ some (f, told.Spent)
told_nothing k q [] f e = absurd (some-ne-none f (sym e))
told_nothing k zero (g ∷ fs) f e = ap (λ (y : Found). let z : Told = (y, told.Spent) in some z) (some-injective g f e)
told_nothing k (suc q) (g ∷ fs) f e = told_nothing k q fs f e

module _ {S : Type 0} (Contents : ℕ → List ℕ → S → ℕ → Type 0) (step : ℕ → S → ℕ → List ℕ → Option (S × List ℕ)) where
  module _ (b : Base) (p : Plan) (fate : Fate) (before now : ℕ) where
    -- the found calls stay, and so do the regions
    abbrev pub IsSame : Plan → Type 0
    IsSame q = (q.requests ≡ p.requests) × (q.main ≡ p.main) × (q.back ≡ p.back) × (q.version ≡ p.version)

    pub recorded_same : (q : Plan) → HasRecord Contents step b p q fate before now → IsSame q
    recorded_same q h = by_record (is_made p.mine) refl
      where
        by_record : (t : Bool) → is_made p.mine ≡ t → IsSame q
        by_record true e = subst IsSame (sym (h.0 e)) (refl, refl, refl, refl)
        by_record false e = let g = h.1 e in subst IsSame (sym g.4) (refl, refl, refl, refl)

    pub pending_in : (q : Plan) (c : ℕ) (f : Request) → HasRecord Contents step b p q fate before now → IsPending p c f → IsPending q c f
    pending_in q c f h g = (g.0, subst (λ (l : List Request). get_elem? l g.0 ≡ some f) (sym (recorded_same q h).0) g.1, g.2, g.3)

    undone_told : (k : ℕ) (more : List Entry) (q : ℕ) (f : Request) → (fate ≡ Published → more ≡ []) → get_elem? p.requests q ≡ some f → get_elem? (fate_told fate k (map found_of p.requests) more) q ≡ some (found_of f, undone fate)
    undone_told k more q f none at = by_fate fate refl
      where
        by_fate : (t : Fate) → fate ≡ t → get_elem? (fate_told t k (map found_of p.requests) more) q ≡ some (found_of f, undone t)
        by_fate Published e = subst (λ (l : List Entry). get_elem? (batch_told k (map found_of p.requests) l) q ≡ some (found_of f, told.Spent)) (sym (none e)) (told_nothing k q (map found_of p.requests) (found_of f) (at_map found_of p.requests q f at))
        by_fate Failed e = at_map (λ (y : Found). let z : Told = (y, told.Failed) in z) (map found_of p.requests) q (found_of f) (at_map found_of p.requests q f at)
        by_fate Doubt e = at_map (λ (y : Found). let z : Told = (y, told.Doubt) in z) (map found_of p.requests) q (found_of f) (at_map found_of p.requests q f at)

    -- what the record tells a call of such a pass
    pub answer_in : (q : Plan) (c : ℕ) (f : Request) (place : ℕ) (reply : List ℕ) → HasRecord Contents step b p q fate before now → IsPending p c f
        → (is_made p.mine ≡ true → (u : Updated (List ℕ)) × IsAnswerToRequest p f u × (answer_words u ≡ place ∷ packed reply))
        → (is_made p.mine ≡ false → CanMakeRecord Contents step b p fate before now × (answer_words (undone fate) ≡ place ∷ packed reply))
        → (u : Updated (List ℕ)) × IsAnswerToRequest q f u × (answer_words u ≡ place ∷ packed reply)
    answer_in q c f place reply h pending made unmade = by_record (is_made p.mine) refl
      where
        by_record : (t : Bool) → is_made p.mine ≡ t → (u : Updated (List ℕ)) × IsAnswerToRequest q f u × (answer_words u ≡ place ∷ packed reply)
        by_record true e = let m = made e in (m.0, subst (λ (z : Plan). IsAnswerToRequest z f m.0) (sym (h.0 e)) m.1, m.2)
        by_record false e = let g = h.1 e in let m = unmade e in let can = m.0 in let batched = g.2 can.start can.count can.opening in
            let none : fate ≡ Published → g.1 ≡ [] = (λ is. batched.1 ∙ full_batch step b.order (after step b.order can.start can.count p.history) g.0 (map found_of p.requests) (batched.0 ∙ can.full is)) in
            (undone fate, subst (λ (z : Plan). IsAnswerToRequest z f (undone fate)) (sym g.4) (g.3 pending.0 f (found_of f, undone fate) pending.1 (undone_told g.0 g.1 pending.0 f none pending.1)), m.1)

  -- the first word of an answer
  pub begun_plan : (fate : Fate) (before now c : ℕ) (st : Step ℕ) (m m' : Seated) (found : ℕ) → 0 < c → st.word ≡ slot_at m.0.base.callers c 43 → begun_answer Contents step fate before now st m found m'
      → (q : Plan) × HasRecord Contents step m.0.base (plan_of m.0) q fate before now × (m' ≡ (planned m.0 (altered c (laying 0 st.first) q), m.1))
  begun_plan fate before now c st m m' found pos at h = by_record (is_made (plan_of m.0).mine) refl
    where
      by_record : (t : Bool) → is_made (plan_of m.0).mine ≡ t → (q : Plan) × HasRecord Contents step m.0.base (plan_of m.0) q fate before now × (m' ≡ (planned m.0 (altered c (laying 0 st.first) q), m.1))
      by_record true e = (plan_of m.0, ((λ _. refl), λ e'. absurd (let z : true ≡ false = sym e ∙ e' in cc)), h.0 e c 0 pos (omega arith) at)
      by_record false e = let g = h.1 e in (making fate before now 0 g.0 g.1 (plan_of m.0), ((λ e'. absurd (let z : true ≡ false = sym e' ∙ e in cc)), λ _. (g.0, g.1, g.2, g.3, refl)), g.4 c 0 pos (omega arith) at)
