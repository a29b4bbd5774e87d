-- The batch is published, and each answer may be given
use Rattle.std.proofs.Common.{◌≡◌, ◌≢◌, ℕ, zero, suc, ◌+◌, ◌<◌, ◌≤◌, ◌^◌, List, [], ◌∷◌, ◌++◌, map, take, length, sym, refl, ap, ◌∙◌, subst, arith, true, false, cond, eqb, ne_eqb, Option}
use Rattle.std.proofs.lemmas.List.{take_all}
use mathlib.Core.Option.{some, some-injective, some-ne-none}
use lib.ListN.{get_elem?}
use Rattle.atomic_table.proofs.Lists.{at_map}
use Rattle.rom_model.specs.declared.entry.Entry.{Entry}
use Rattle.rom_model.specs.declared.record.Fate.{Fate}
use Rattle.rom_model.specs.declared.record.Fate.TheVariants.{Published}
use Rattle.rom_model.specs.declared.record.Found.{Found}
use Rattle.rom_model.specs.History.{after, batch, LAST_COUNT}
use Rattle.rom_model.specs.Passes.{batch_told}
use Rattle.rom_model.specs.Passes.{faults_after}
use Rattle.rom_model.specs.declared.call.Updated.TheVariants as told
use Rattle.rom_rule.specs.declared.views.Base.{Base}
use Rattle.rom_rule.specs.declared.views.Plan.{Plan}
use Rattle.rom_rule.specs.Views.{Each, Told}
use Rattle.rom_rule.specs.Calls.{AreScanned, answer_words, caller_in, found_of, packed}
use Rattle.rom_rule.specs.Records.{IsCall}
use Rattle.rom_rule.specs.Kinds.{CanSwitchToMain, IsBatch, TellsEach, making, switched}
use Rattle.rom_rule.proofs.Told.{length_map, at_mapped, at_low, at_some}
use Rattle.rom_announce.specs.Answering.{fate_of_place}
use Rattle.rom_combine.specs.declared.answering.CallAnswer.{CallAnswer}
use Rattle.rom_combine.specs.Answering.{HasGiven}
use Rattle.rom_combine.specs.Scanning.{IsUnanswered}
use Rattle.rom_combine.specs.Applying.{laid_of, laid_told, batch_first, IsApplied}
use Rattle.rom_combine.proofs.Gives.{made_some}

-- the callers of what was told are those of the calls
told_callers : (k : ℕ) (fs : List Found) (es : List Entry) → map (λ (x : Told). x.0.caller) (batch_told k fs es) ≡ map (λ (f : Found). f.caller) fs
told_callers k [] es = refl
told_callers k (f ∷ fs) [] = ap (λ (l : List ℕ). f.caller ∷ l) (told_callers k fs [])
told_callers k (f ∷ fs) (e ∷ es) = ap (λ (l : List ℕ). f.caller ∷ l) (told_callers (k + 1) fs es)

map_both : {A B C : Type 0} (f : B → C) (g : A → B) (xs : List A) → map f (map g xs) ≡ map (λ x. f (g x)) xs
map_both f g xs = Rattle.rom_rule.proofs.Told.map_map f g xs

-- a batch's answers are no codes of a fault
low_place : (k i : ℕ) (fs : List Found) (es : List Entry) (x : Told) → k + length es ≤ LAST_COUNT → get_elem? (batch_told k fs es) i ≡ some x → (place : ℕ) × (rest : List ℕ) × (answer_words x.1 ≡ place ∷ rest) × (place ≤ LAST_COUNT)
low_place k i [] es x le e = absurd (some-ne-none x (sym e))
low_place k zero (f ∷ fs) [] x le e = (LAST_COUNT, packed [], ap (λ (y : Told). answer_words y.1) (sym (some-injective (f, told.Spent) x e)), omega arith)
low_place k (suc i) (f ∷ fs) [] x le e = low_place k i fs [] x le e
low_place k zero (f ∷ fs) (y ∷ es) x le e = (k, packed y.reply, ap (λ (z : Told). answer_words z.1) (sym (some-injective (f, told.Done y.reply k) x e)), omega arith)
low_place k (suc i) (f ∷ fs) (y ∷ es) x le e = low_place (k + 1) i fs es x (omega arith) e

pub no_fault : (place : ℕ) → place ≤ LAST_COUNT → fate_of_place place ≡ Published
no_fault place le = ap (λ (t : Rattle.std.proofs.Common.Bool). cond t Rattle.rom_model.specs.declared.record.Fate.TheVariants.Failed (cond (eqb place (2 ^ 62 + 2)) Rattle.rom_model.specs.declared.record.Fate.TheVariants.Doubt Published)) (ne_eqb place (2 ^ 62 + 1) (λ e. omega arith))
    ∙ ap (λ (t : Rattle.std.proofs.Common.Bool). cond t Rattle.rom_model.specs.declared.record.Fate.TheVariants.Doubt Published) (ne_eqb place (2 ^ 62 + 2) (λ e. omega arith))

module _ {S : Type 0} (Contents : ℕ → List ℕ → S → ℕ → Type 0) (step : ℕ → S → ℕ → List ℕ → Option (S × List ℕ)) (b : Base) (s : S) (n : ℕ) (p : Plan) where
  -- all of them
  all_first : (i : ℕ) → i ≡ length p.requests → take i (map found_of p.requests) ≡ map found_of p.requests
  all_first i e = take_all i (map found_of p.requests) (omega (arith, length_map found_of p.requests))

  pub can_publish : (main : List ℕ) (i before now : ℕ) (given : List CallAnswer) → i ≡ length p.requests → Contents b.order b.image s n → p.mine ≡ [] → Each (λ _ f. IsUnanswered (IsCall step b) f) p.requests → faults_after b.faults p.records ≤ before → before ≤ now
      → IsApplied Contents step b s n p main i given → CanSwitchToMain Contents step b (record p { main = main }) before now
  can_publish main i before now given long opening unmade fresh from on a = record {
    unmade = unmade;
    whole = λ j f e. (fresh j f e).1;
    from = from;
    on = on;
    start = s;
    count = n;
    opening = opening;
    stands = subst (λ (fs : List Found). Rattle.rom_rule.specs.Readers.Held Contents step b s n main (p.history ++ batch step b.order (after step b.order s n p.history) (n + length p.history) fs)) (all_first i long) a.held;
  }

  pub is_left : (main : List ℕ) (i before now moment k : ℕ) (more : List Entry) (given : List CallAnswer) → i ≡ length p.requests → Contents b.order b.image s n → AreScanned 0 b.callers (map caller_in p.requests) → Each (λ _ f. IsUnanswered (IsCall step b) f) p.requests
      → IsApplied Contents step b s n p main i given → n + length p.history + length (batch_first Contents step b s n p i) ≤ LAST_COUNT → IsBatch Contents step b (record p { main = main }) k more → TellsEach Published k more (record p { main = main })
      → HasGiven Contents step b Published before now (switched 0 (making Published before now moment k more (record p { main = main }))) 0 given
  is_left main i before now moment k more given long opening rising fresh a fits batched tells = let all = all_first i long in let same = batched s n opening in let k₀ : ℕ = n + length p.history in
      let told_same : batch_told k (map found_of p.requests) more ≡ batch_told k₀ (take i (map found_of p.requests)) (batch_first Contents step b s n p i)
      = (λ j. batch_told (same.0 j) (sym all j) ((same.1 ∙ (λ h. batch step b.order (after step b.order s n p.history) (same.0 h) (sym all h))) j)) in
      let laid : map laid_of given ≡ map laid_told (batch_told k (map found_of p.requests) more) = a.answers_are ∙ ap (map laid_told) (sym told_same) in record {
        rising = rising;
        same = sym (map_both (λ (f : Found). f.caller) found_of p.requests) ∙ (sym (told_callers k (map found_of p.requests) more) ∙ (sym (map_both (λ (z : ℕ × List ℕ). z.0) laid_told (batch_told k (map found_of p.requests) more)) ∙ (ap (map (λ (z : ℕ × List ℕ). z.0)) (sym laid) ∙ map_both (λ (z : ℕ × List ℕ). z.0) laid_of given)));
        done = λ j f e lt. absurd (omega arith);
        left = λ j f x le e at. let m = at_mapped laid_told (batch_told k (map found_of p.requests) more) j (laid_of x) (ap (λ (l : List (ℕ × List ℕ)). get_elem? l j) (sym laid) ∙ at_map laid_of given j x at) in let t : Told = m.0 in
            let words : answer_words t.1 ≡ x.place ∷ packed x.reply = ap (λ (z : ℕ × List ℕ). z.1) m.2 in
            let low = low_place k₀ j (take i (map found_of p.requests)) (batch_first Contents step b s n p i) t fits (subst (λ (l : List Told). get_elem? l j ≡ some t) told_same m.1) in
            let place : x.place ≡ low.0 = ap (λ (l : List ℕ). Rattle.std.proofs.Common.get_or l 0 0) (sym words ∙ low.2) in let le' = low.3 in
            let mine : get_elem? (Rattle.rom_rule.specs.Calls.told_to_caller (p.told ++ batch_told k (map found_of p.requests) more) f.caller) f.seq ≡ some t = tells j f t e m.1 in
            let found : t.0 ≡ found_of f = found_at k (map found_of p.requests) more j t (found_of f) m.1 (at_map found_of p.requests j f e) in (
              (fresh j f e).0,
              no_fault x.place (omega arith),
              ((λ _. (t.1, mine ∙ ap (λ (z : Found). let y : Told = (z, t.1) in some y) found, words)), λ e'. absurd (let z : true ≡ false = sym (made_some (map found_of p.requests) _ j (found_of f) (at_map found_of p.requests j f e)) ∙ e' in cc)),
            );
      }
    where
      found_at : (k₁ : ℕ) (fs : List Found) (es : List Entry) (j : ℕ) (t : Told) (f : Found) → get_elem? (batch_told k₁ fs es) j ≡ some t → get_elem? fs j ≡ some f → t.0 ≡ f
      found_at k₁ fs es j t f e g = some-injective t.0 f (sym (at_map Rattle.rom_rule.specs.Calls.found_in (batch_told k₁ fs es) j t e) ∙ (ap (λ (l : List Found). get_elem? l j) (Rattle.rom_rule.proofs.Told.batch_found k₁ fs es) ∙ g))
