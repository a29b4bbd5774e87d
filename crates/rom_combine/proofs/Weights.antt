-- Sums of weights: with one call more, of a batch, and at most.
use Rattle.std.proofs.Common.{◌≡◌, ℕ, zero, suc, ◌+◌, ◌-◌, ◌*◌, ◌≤◌, List, [], ◌∷◌, ◌++◌, map, take, length, refl, sym, ap, ◌∙◌, subst, arith, Bool, true, false, cond, Option, Some, None}
use Rattle.std.specs.Prelude.{nat_lt}
use Rattle.std.proofs.Math.Nat.{mul-le-mul_left}
use Rattle.std.proofs.Math.Seq.{drop-append_seam}
use mathlib.Core.Option.{some, some-injective, some-ne-none}
use lib.ListN.{get_elem?}
use Rattle.rom_model.specs.declared.entry.Entry.{Entry}
use Rattle.rom_model.specs.declared.record.Found.{Found}
use Rattle.rom_model.specs.History.{left, batch, batch_of, LAST_COUNT}
use Rattle.rom_rule.proofs.Books.{entry_of}
use Rattle.rom_rule.proofs.Told.{map_map}
use Rattle.rom_rule.specs.Calls.{found_of}
use Rattle.rom_rule.specs.declared.views.Plan.{Plan}
use Rattle.rom_combine.specs.Answering.{SameCalls}
use Rattle.rom_combine.specs.Costs.{weights, weights_added, weights_found}
use Rattle.rom_combine.specs.Scanning.{posted_of}
use Rattle.rom_combine.specs.declared.scanning.Posted.{Posted}

module _ (weight : List ℕ → ℕ) where
  weights_suc : (calls : List (List ℕ)) (i : ℕ) (args : List ℕ) → get_elem? calls i ≡ some args → weights weight (take (suc i) calls) ≡ weights weight (take i calls) + weight args
  weights_suc [] i args e = absurd (some-ne-none args (sym e))
  weights_suc (c ∷ calls) zero args e = ap (λ (z : List ℕ). weight z + 0) (some-injective c args e) ∙ (let z : weight args + 0 ≡ 0 + weight args = omega arith in z)
  weights_suc (c ∷ calls) (suc i) args e = omega (arith, weights_suc calls i args e)

  weights_next : (calls : List (List ℕ)) (i : ℕ) (args : List ℕ) → get_elem? calls i ≡ some args → weights weight (take (i + 1) calls) ≡ weights weight (take i calls) + weight args
  weights_next calls i args e = ap (λ (n : ℕ). weights weight (take n calls)) (let z : i + 1 ≡ suc i = omega arith in z) ∙ weights_suc calls i args e

  -- one call more is done, the one behind those that were done
  pub stores_more : (stores place count count' added added' i : ℕ) (calls : List (List ℕ)) (args : List ℕ) → get_elem? calls i ≡ some args → count ≡ place + i → count' ≡ count + 1
      → added ≤ stores * weights weight (take (count - place) calls) → added' ≤ added + stores * weight args → added' ≤ stores * weights weight (take (count' - place) calls)
  stores_more stores place count count' added added' i calls args at here next few more =
      let was : count - place ≡ i = omega (arith, here) in let is : count' - place ≡ i + 1 = omega (arith, here, next) in
      let sum : weights weight (take (count' - place) calls) ≡ weights weight (take (count - place) calls) + weight args
      = ap (λ (n : ℕ). weights weight (take n calls)) is ∙ (weights_next calls i args at ∙ ap (λ (n : ℕ). weights weight (take n calls) + weight args) (sym was)) in
      subst (λ (k : ℕ). added' ≤ stores * k) (sym sum) (omega (arith, few, more))

  -- a history with some entries more
  pub added_weights : (history more new : List Entry) (calls : List (List ℕ)) → new ≡ history ++ more → map (λ (e : Entry). e.args) more ≡ take (length more) calls → weights_added weight history new ≡ weights weight (take (length more) calls)
  added_weights history more new calls is same = ap (weights_added weight history) is ∙ (ap (λ (es : List Entry). weights weight (map (λ (e : Entry). e.args) es)) (drop-append_seam history more) ∙ ap (weights weight) same)

  weights_take : (n : ℕ) (calls : List (List ℕ)) → weights weight (take n calls) ≤ weights weight calls
  weights_take zero calls = omega arith
  weights_take (suc n) [] = omega arith
  weights_take (suc n) (args ∷ calls) = omega (arith, weights_take n calls)

  -- the stores of the first calls are at most those of all
  pub stores_of_all : (stores added n : ℕ) (calls : List (List ℕ)) → added ≤ stores * weights weight (take n calls) → added ≤ stores * weights weight calls
  stores_of_all stores added n calls few = omega (arith, few, mul-le-mul_left stores (weights_take n calls))

  -- the found calls are the plan's requests
  pub posted_args : (p : Plan) (found : List Posted) → found ≡ map posted_of p.requests → map (λ (f : Found). f.args) (map found_of p.requests) ≡ map (λ (one : Posted). one.args) found
  posted_args p found is = map_map (λ (f : Found). f.args) found_of p.requests ∙ (sym (map_map (λ (one : Posted). one.args) posted_of p.requests) ∙ ap (map (λ (one : Posted). one.args)) (sym is))

  pub stores_found : (stores added : ℕ) (p : Plan) (found : List Posted) → found ≡ map posted_of p.requests → added ≤ stores * weights weight (map (λ (one : Posted). one.args) found) → added ≤ stores * weights_found weight p
  stores_found stores added p found is most = subst (λ (calls : List (List ℕ)). added ≤ stores * weights weight calls) (sym (posted_args p found is)) most

  pub same_found : (p q : Plan) → SameCalls p q → weights_found weight q ≡ weights_found weight p
  same_found p q same = ap (λ (fs : List Found). weights weight (map (λ (f : Found). f.args) fs)) same.1

  -- Where none weighs more than so much, all of them weigh at most that for each; of an object whose calls weigh 1 the sum is so at most their number.
  pub weights_within : (most : ℕ) → ((args : List ℕ) → weight args ≤ most) → (calls : List (List ℕ)) → weights weight calls ≤ most * length calls
  weights_within most each [] = omega arith
  weights_within most each (args ∷ calls) = omega (arith, each args, weights_within most each calls)

-- the calls of a batch are the first that were found
module _ {S : Type 0} (step : ℕ → S → ℕ → List ℕ → Option (S × List ℕ)) (order : ℕ) where
  pub first_found : (s : S) (k : ℕ) (fs : List Found) → map (λ (e : Entry). e.args) (batch step order s k fs) ≡ take (length (batch step order s k fs)) (map (λ (f : Found). f.args) fs)
  first_found s k [] = refl
  first_found s k (f ∷ fs) = go (step order s k f.args) (batch step order (left s (step order s k f.args)) (k + 1) fs) (first_found (left s (step order s k f.args)) (k + 1) fs)
    where
      by_limit : (e : Entry) (t : Bool) (es : List Entry) → e.args ≡ f.args → map (λ (x : Entry). x.args) es ≡ take (length es) (map (λ (x : Found). x.args) fs) → map (λ (x : Entry). x.args) (cond t (e ∷ es) []) ≡ take (length (cond t (e ∷ es) [])) (map (λ (x : Found). x.args) (f ∷ fs))
      by_limit e true es same rest = λ j. same j ∷ rest j
      by_limit e false es same rest = refl

      go : (o : Option (S × List ℕ)) (es : List Entry) → map (λ (x : Entry). x.args) es ≡ take (length es) (map (λ (x : Found). x.args) fs) → map (λ (x : Entry). x.args) (batch_of step order k f o es) ≡ take (length (batch_of step order k f o es)) (map (λ (x : Found). x.args) (f ∷ fs))
      go (Some d) es rest = by_limit (entry_of f d.1) (nat_lt k LAST_COUNT) es refl rest
      go None es rest = refl
