-- The codes of a pass that did nothing may be given
use Rattle.std.proofs.Common.{◌≡◌, ℕ, ◌+◌, ◌≤◌, List, [], ◌∷◌, map, length, sym, refl, ap, ◌∙◌, subst, arith, true, false, Option}
use mathlib.Core.Option.{some-injective}
use lib.ListN.{get_elem?}
use Rattle.atomic_table.proofs.Lists.{at_map}
use Rattle.rom_model.specs.declared.record.Fate.{Fate}
use Rattle.rom_rule.specs.declared.views.Base.{Base}
use Rattle.rom_rule.specs.declared.views.Request.{Request}
use Rattle.rom_rule.specs.declared.views.Plan.{Plan}
use Rattle.rom_rule.specs.Views.{Each, is_made}
use Rattle.rom_rule.specs.Calls.{AreScanned, answer_words, caller_in, packed}
use Rattle.rom_rule.specs.Records.{IsCall}
use Rattle.rom_rule.specs.CallKinds.{CanMakeRecord}
use Rattle.rom_announce.specs.Answering.{CanAnswer, fate_of_place, undone}
use Rattle.rom_combine.specs.declared.answering.CallAnswer.{CallAnswer}
use Rattle.rom_combine.specs.declared.scanning.Posted.{Posted}
use Rattle.rom_combine.specs.Scanning.{posted_of, IsUnanswered}
use Rattle.rom_combine.specs.Answering.{caller_of, HasGiven}
use Rattle.rom_combine.specs.Answering.{refused}

callers_refused : (code : ℕ) (fs : List Request) → map caller_in fs ≡ map caller_of (map (refused code) (map posted_of fs))
callers_refused code [] = refl
callers_refused code (f ∷ fs) = ap (λ (l : List ℕ). f.caller ∷ l) (callers_refused code fs)

module _ {S : Type 0} (Contents : ℕ → List ℕ → S → ℕ → Type 0) (step : ℕ → S → ℕ → List ℕ → Option (S × List ℕ)) (b : Base) where
  pub is_refused : (code : ℕ) (fate : Fate) (p : Plan) (before now : ℕ) (found : List Posted) (given : List CallAnswer) → fate_of_place code ≡ fate → answer_words (undone fate) ≡ code ∷ packed [] → CanMakeRecord Contents step b p fate before now
      → AreScanned 0 b.callers (map caller_in p.requests) → Each (λ _ f. IsUnanswered (IsCall step b) f) p.requests → found ≡ map posted_of p.requests → given ≡ map (refused code) found → HasGiven Contents step b fate before now p 0 given
  is_refused code fate p before now found given is words can rising fresh found_are answers_are = let all : given ≡ map (refused code) (map posted_of p.requests) = answers_are ∙ ap (map (refused code)) found_are in record {
    rising = rising;
    same = callers_refused code p.requests ∙ ap (map caller_of) (sym all);
    done = λ j f e lt. absurd (omega arith);
    left = λ j f x le e at. let mine : refused code (posted_of f) ≡ x = some-injective (refused code (posted_of f)) x (sym (at_map (refused code) (map posted_of p.requests) j (posted_of f) (at_map posted_of p.requests j f e)) ∙ (ap (λ (l : List CallAnswer). get_elem? l j) (sym all) ∙ at)) in
        subst (λ (y : CallAnswer). (f.answered ≡ false) × (fate_of_place y.place ≡ fate) × CanAnswer Contents step b p f y.place y.reply before now) mine
        ((fresh j f e).0, is, ((λ made. absurd (let z : false ≡ true = sym (ap is_made can.unmade) ∙ made in cc)), (λ _. (subst (λ (z : Fate). CanMakeRecord Contents step b p z before now) (sym is) can, ap (λ (z : Fate). answer_words (undone z)) is ∙ words))));
  }

  -- a pass that failed or is in doubt may make its record
  pub may_know : (fate : Fate) (p : Plan) (before now : ℕ) (s : S) (n : ℕ) → (fate ≡ Rattle.rom_model.specs.declared.record.Fate.TheVariants.Published → ⊥) → p.mine ≡ [] → Each (λ _ f. IsUnanswered (IsCall step b) f) p.requests
      → Rattle.rom_model.specs.Passes.faults_after b.faults p.records ≤ before → before ≤ now → Rattle.rom_model.specs.Passes.HasFault fate before now → Contents b.order b.image s n → CanMakeRecord Contents step b p fate before now
  may_know fate p before now s n other unmade fresh from on fault opening = record {
    unmade = unmade;
    whole = λ j f e. (fresh j f e).1;
    from = from;
    on = on;
    fault = fault;
    start = s;
    count = n;
    opening = opening;
    full = λ e. absurd (other e);
  }

  -- and one that found the count at its limit
  pub may_spend : (p : Plan) (before now : ℕ) (s : S) (n : ℕ) → n + length p.history ≡ Rattle.rom_model.specs.History.LAST_COUNT → p.mine ≡ [] → Each (λ _ f. IsUnanswered (IsCall step b) f) p.requests
      → Rattle.rom_model.specs.Passes.faults_after b.faults p.records ≤ before → before ≤ now → Contents b.order b.image s n → CanMakeRecord Contents step b p Rattle.rom_model.specs.declared.record.Fate.TheVariants.Published before now
  may_spend p before now s n last unmade fresh from on opening = record {
    unmade = unmade;
    whole = λ j f e. (fresh j f e).1;
    from = from;
    on = on;
    fault = tt;
    start = s;
    count = n;
    opening = opening;
    full = λ e. last;
  }
