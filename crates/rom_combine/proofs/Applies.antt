-- One found call more is done
use Rattle.std.proofs.Common.{◌≡◌, ℕ, zero, suc, ◌+◌, ◌<◌, List, [], ◌∷◌, ◌++◌, map, take, length, sym, refl, ap, ◌∙◌, subst, arith, true, false, Option, Some, None, length-append, append_assoc, append-nil, length-take}
use Rattle.std.specs.Prelude.{IsSome, option_map}
use mathlib.Core.Logic.{dite}
use mathlib.Core.Option.{some, some-injective, some-ne-none}
use native.Mathlib.Decide.{dec_le}
use lib.ListN.{get_elem?}
use Rattle.atomic_table.proofs.Lists.{at_map}
use Rattle.rom_model.specs.declared.entry.Entry.{Entry}
use Rattle.rom_model.specs.declared.record.Found.{Found}
use Rattle.rom_model.specs.declared.call.Updated.TheVariants as told
use Rattle.rom_model.specs.History.{left, after, batch, LAST_COUNT}
use Rattle.rom_model.specs.Passes.{batch_told}
use Rattle.rom_model.proofs.Recorded.{after_append}
use Rattle.rom_rule.specs.declared.views.Base.{Base}
use Rattle.rom_rule.specs.declared.views.Request.{Request}
use Rattle.rom_rule.specs.declared.views.Plan.{Plan}
use Rattle.rom_rule.specs.Views.{Each}
use Rattle.rom_rule.specs.Calls.{found_of, packed}
use Rattle.rom_rule.specs.Readers.{Held}
use Rattle.rom_rule.specs.Records.{IsCall}
use Rattle.rom_rule.proofs.Told.{map_append, length_map, at_low, at_mapped}
use Rattle.rom_rule.proofs.Books.{entry_of}
use Rattle.rom_combine.specs.declared.answering.CallAnswer.{CallAnswer}
use Rattle.rom_combine.specs.declared.scanning.Posted.{Posted}
use Rattle.rom_combine.specs.Scanning.{posted_of, IsUnanswered}
use Rattle.rom_combine.specs.Applying.{laid_of, laid_told, batch_first, IsApplied, IsDoneOne}
use Rattle.rom_combine.proofs.Limits.{AreCalls, batch_short, batch_more, batch_full, told_done, told_spent}

take_go : {A : Type 0} (a : A) (ys : List A) (j : ℕ) → get_elem? ys j ≡ some a → take (suc j) ys ≡ take j ys ++ a ∷ []
take_go a [] j e = absurd (some-ne-none a (sym e))
take_go {A} a (y ∷ ys) zero e = ap (λ (z : A). z ∷ []) (some-injective y a e)
take_go {A} a (y ∷ ys) (suc j) e = ap (λ (l : List A). y ∷ l) (take_go a ys j e)

take_next : {A : Type 0} (xs : List A) (i : ℕ) (a : A) → get_elem? xs i ≡ some a → take (i + 1) xs ≡ take i xs ++ a ∷ []
take_next xs i a e = ap (λ (n : ℕ). take n xs) (let z : i + 1 ≡ suc i = omega arith in z) ∙ take_go a xs i e

some_value : {A : Type 0} (o : Option A) → IsSome o → (a : A) × (o ≡ Some a)
some_value (Some a) h = (a, refl)
some_value None h = absurd (let z : false ≡ true = h in cc)

pub was_some : {A B : Type 0} (f : A → B) (o : Option A) → IsSome (option_map f o) → IsSome o
was_some f (Some a) h = refl
was_some f None h = absurd (let z : false ≡ true = h in cc)

-- the find that a taken call is of
pub posted_at : (items : List Posted) (fs : List Request) (i : ℕ) (x : Posted) → items ≡ map posted_of fs → get_elem? items i ≡ some x → (f : Request) × (get_elem? fs i ≡ some f) × (posted_of f ≡ x)
posted_at items fs i x same at = at_mapped posted_of fs i x (subst (λ (l : List Posted). get_elem? l i ≡ some x) same at)

module _ {S : Type 0} (Contents : ℕ → List ℕ → S → ℕ → Type 0) (step : ℕ → S → ℕ → List ℕ → Option (S × List ℕ)) (b : Base) (s : S) (n : ℕ) (p : Plan) where
  abbrev founds : List Found
  founds = map found_of p.requests

  abbrev st : S
  st = after step b.order s n p.history

  abbrev k : ℕ
  k = n + length p.history

  some_calls : (i : ℕ) (fs : List Request) → Each (λ _ f. IsUnanswered (IsCall step b) f) fs → AreCalls step b.order (take i (map found_of fs))
  some_calls zero fs h = tt
  some_calls (suc i) [] h = tt
  some_calls (suc i) (f ∷ fs) h = ((h 0 f refl).2, some_calls i fs (λ j g e. h (suc j) g e))

  pub none_applied : (main : List ℕ) → Held Contents step b s n main p.history → IsApplied Contents step b s n p main 0 []
  none_applied main held = record { held = subst (Held Contents step b s n main) (sym (append-nil p.history)) held; answers_are = refl }

  -- the state that the next call requests
  pub next_state : (main : List ℕ) (i : ℕ) (given : List CallAnswer) (f : Request) → IsApplied Contents step b s n p main i given → Each (λ _ g. IsUnanswered (IsCall step b) g) p.requests → get_elem? p.requests i ≡ some f → k + i < LAST_COUNT → Contents b.order main (after step b.order st k (batch_first Contents step b s n p i)) (k + i)
  next_state main i given f a fresh at low = let fs : List Found = take i founds in let more : List Entry = batch_first Contents step b s n p i in let lt = at_low p.requests i f at in
      let calls = some_calls i p.requests fresh in let long : length fs ≡ i = omega (arith, length-take i founds, length_map found_of p.requests) in
      let d = some_value (step b.order (after step b.order st k more) (k + length fs) (found_of f).args) ((fresh i f at).2 (after step b.order st k more) (k + length fs)) in
      let all : length more ≡ i = (batch_more step b.order st k fs (found_of f) d.0.0 d.0.1 calls (omega arith) d.1).1 ∙ long in
      subst (λ (z : S × ℕ). Contents b.order main z.0 z.1) (λ j. (after_append step b.order s n p.history more j, (let e : n + length (p.history ++ more) ≡ k + i = omega (arith, length-append p.history more) in e) j)) a.held

  pub one_applied : (main main' : List ℕ) (i : ℕ) (given : List CallAnswer) (f : Request) (x : CallAnswer) → IsApplied Contents step b s n p main i given → Each (λ _ g. IsUnanswered (IsCall step b) g) p.requests → get_elem? p.requests i ≡ some f → IsDoneOne Contents step b (posted_of f) (k + i) main main' x
      → IsApplied Contents step b s n p main' (i + 1) (given ++ x ∷ [])
  one_applied main main' i given f x a fresh at did = let fs : List Found = take i founds in let more : List Entry = batch_first Contents step b s n p i in let lt = at_low p.requests i f at in let fd : Found = found_of f in
      let calls = some_calls i p.requests fresh in let long : length fs ≡ i = omega (arith, length-take i founds, length_map found_of p.requests) in
      let next : take (i + 1) founds ≡ fs ++ fd ∷ [] = take_next founds i fd (at_map found_of p.requests i f at) in
      dite (dec_le LAST_COUNT (k + i))
      (λ past. let e = did.spent past in let same : batch step b.order st k (take (i + 1) founds) ≡ more = ap (batch step b.order st k) next ∙ batch_full step b.order st k fs fd (omega arith) in record {
        held = subst (λ (z : List ℕ × List Entry). Held Contents step b s n z.0 (p.history ++ z.1)) (λ j. (sym e.0 j, sym same j)) a.held;
        answers_are = map_append laid_of given (x ∷ []) ∙ ((λ j. a.answers_are j ++ e.1 j ∷ []) ∙ (sym (map_append laid_told (batch_told k fs more) ((fd, told.Spent) ∷ []))
            ∙ (ap (map laid_told) (sym (told_spent k fs more fd (batch_short step b.order st k fs))) ∙ (λ j. map laid_told (batch_told k (sym next j) (sym same j))))));
      })
      (λ below. let low : k + i < LAST_COUNT = omega arith in let state : S = after step b.order st k more in let e = did.done low state (next_state main i given f a fresh at low) in let en : Entry = entry_of fd e.1 in
      let is : step b.order state (k + length fs) fd.args ≡ Some (e.0, e.1) = ap (λ (m : ℕ). step b.order state m fd.args) (let z : k + length fs ≡ k + i = omega arith in z) ∙ e.2 in
      let grown = batch_more step b.order st k fs fd e.0 e.1 calls (omega arith) is in
      let same : batch step b.order st k (take (i + 1) founds) ≡ more ++ en ∷ [] = ap (batch step b.order st k) next ∙ grown.0 in let many : length more ≡ i = grown.1 ∙ long in
      let whole : after step b.order s n (p.history ++ (more ++ en ∷ [])) ≡ e.0
      = ap (after step b.order s n) (sym (append_assoc p.history more (en ∷ []))) ∙ (after_append step b.order s n (p.history ++ more) (en ∷ [])
      ∙ (ap (λ (z : S × ℕ). left z.0 (step b.order z.0 z.1 fd.args)) (λ j. (after_append step b.order s n p.history more j, (let q : n + length (p.history ++ more) ≡ k + i = omega (arith, length-append p.history more) in q) j)) ∙ ap (left state) e.2)) in record {
        held = subst (λ (l : List Entry). Held Contents step b s n main' (p.history ++ l)) (sym same)
            (subst (λ (z : S × ℕ). Contents b.order main' z.0 z.1) (λ j. (sym whole j, (let q : k + i + 1 ≡ n + length (p.history ++ (more ++ en ∷ [])) = omega (arith, length-append p.history (more ++ en ∷ []), length-append more (en ∷ [])) in q) j)) e.3);
        answers_are = map_append laid_of given (x ∷ []) ∙ ((λ j. a.answers_are j ++ e.4 j ∷ []) ∙ ((λ j. map laid_told (batch_told k fs more) ++ (fd.caller, (let q : k + i ≡ k + length fs = omega arith in q) j ∷ packed e.1) ∷ [])
            ∙ (sym (map_append laid_told (batch_told k fs more) ((fd, told.Done e.1 (k + length fs)) ∷ []))
            ∙ (ap (map laid_told) (sym (told_done k fs more fd en grown.1)) ∙ (λ j. map laid_told (batch_told k (sym next j) (sym same j)))))));
      })
