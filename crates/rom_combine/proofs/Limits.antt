-- A batch with one call more
use Rattle.std.proofs.Common.{◌≡◌, ℕ, ◌+◌, ◌<◌, ◌≤◌, List, [], ◌∷◌, ◌++◌, length, sym, refl, ap, ◌∙◌, subst, arith, Bool, true, false, cond, lt-ltb, Option, Some, None}
use Rattle.std.specs.Prelude.{nat_lt, IsSome}
use Rattle.std.specs.List.{AllByRecursion}
use Rattle.rom_model.specs.declared.entry.Entry.{Entry}
use Rattle.rom_model.specs.declared.record.Found.{Found}
use Rattle.rom_model.specs.declared.call.Updated.TheVariants as told
use Rattle.rom_model.specs.History.{left, after, batch, batch_of, LAST_COUNT}
use Rattle.rom_model.specs.Passes.{batch_told}
use Rattle.rom_rule.specs.Views.{Told}
use Rattle.rom_rule.proofs.Books.{entry_of}

module _ {S : Type 0} (step : ℕ → S → ℕ → List ℕ → Option (S × List ℕ)) (order : ℕ) where
  -- each may be done in any state
  abbrev pub AreCalls : List Found → Type 0
  AreCalls fs = AllByRecursion (λ f. (s : S) (k : ℕ) → IsSome (step order s k f.args)) fs

  -- the first call is done, where the count isn't at its limit
  first_done : (s : S) (k : ℕ) (f : Found) (rest : List Entry) → IsSome (step order s k f.args) → k < LAST_COUNT → (r : List ℕ) × (batch_of step order k f (step order s k f.args) rest ≡ entry_of f r ∷ rest)
  first_done s k f rest some low = go (step order s k f.args) some
    where
      go : (o : Option (S × List ℕ)) → IsSome o → (r : List ℕ) × (batch_of step order k f o rest ≡ entry_of f r ∷ rest)
      go (Some d) h = (d.1, ap (λ (t : Bool). cond t (entry_of f d.1 ∷ rest) []) (lt-ltb k LAST_COUNT low))
      go None h = absurd (let z : false ≡ true = h in cc)

  -- so a batch that found a call below the limit isn't empty
  pub batch_some : (s : S) (k : ℕ) (fs : List Found) → AreCalls fs → 0 < length fs → k < LAST_COUNT → 0 < length (batch step order s k fs)
  batch_some s k [] calls found low = absurd (omega arith)
  batch_some s k (f ∷ fs) calls found low = let d = first_done s k f (batch step order (left s (step order s k f.args)) (k + 1) fs) (calls.0 s k) low in omega (arith, ap length d.1)

  pub batch_short : (s : S) (k : ℕ) (fs : List Found) → length (batch step order s k fs) ≤ length fs
  batch_short s k [] = omega arith
  batch_short s k (f ∷ fs) = let rest = batch_short (left s (step order s k f.args)) (k + 1) fs in go (step order s k f.args) (batch step order (left s (step order s k f.args)) (k + 1) fs) rest
    where
      by_limit : (e : Entry) (t : Bool) (es : List Entry) → length es ≤ length fs → length (cond t (e ∷ es) []) ≤ length (f ∷ fs)
      by_limit e true es le = omega arith
      by_limit e false es le = omega arith

      go : (o : Option (S × List ℕ)) (es : List Entry) → length es ≤ length fs → length (batch_of step order k f o es) ≤ length (f ∷ fs)
      go (Some d) es le = by_limit (entry_of f d.1) (nat_lt k LAST_COUNT) es le
      go None es le = omega arith

  -- a batch ends at the limit
  pub batch_fits : (s : S) (k : ℕ) (fs : List Found) → k ≤ LAST_COUNT → k + length (batch step order s k fs) ≤ LAST_COUNT
  batch_fits s k [] le = omega arith
  batch_fits s k (f ∷ fs) le = go (step order s k f.args) (batch step order (left s (step order s k f.args)) (k + 1) fs) (λ lt. batch_fits (left s (step order s k f.args)) (k + 1) fs lt)
    where
      by_limit : (e : Entry) (t : Bool) (es : List Entry) → nat_lt k LAST_COUNT ≡ t → (k + 1 ≤ LAST_COUNT → k + 1 + length es ≤ LAST_COUNT) → k + length (cond t (e ∷ es) []) ≤ LAST_COUNT
      by_limit e true es is h = let lt = Rattle.std.proofs.Math.Dec.ltb→lt k LAST_COUNT (subst lib.Dec.T (sym is) tt) in let r = h (omega arith) in omega arith
      by_limit e false es is h = omega arith

      go : (o : Option (S × List ℕ)) (es : List Entry) → (k + 1 ≤ LAST_COUNT → k + 1 + length es ≤ LAST_COUNT) → k + length (batch_of step order k f o es) ≤ LAST_COUNT
      go (Some d) es h = by_limit (entry_of f d.1) (nat_lt k LAST_COUNT) es refl h
      go None es h = omega arith

  -- below the limit
  pub batch_more : (s : S) (k : ℕ) (fs : List Found) (f : Found) (d : S) (r : List ℕ) → AreCalls fs → k + length fs < LAST_COUNT → step order (after step order s k (batch step order s k fs)) (k + length fs) f.args ≡ Some (d, r)
      → (batch step order s k (fs ++ f ∷ []) ≡ batch step order s k fs ++ entry_of f r ∷ []) × (length (batch step order s k fs) ≡ length fs)
  batch_more s k [] f d r calls low is = (
    ap (λ (o : Option (S × List ℕ)). batch_of step order k f o []) (ap (λ (m : ℕ). step order s m f.args) (let e : k ≡ k + 0 = omega arith in e) ∙ is) ∙ ap (λ (t : Bool). cond t (entry_of f r ∷ []) []) (lt-ltb k LAST_COUNT (omega arith)),
    refl,
  )
  batch_more s k (g ∷ gs) f d r calls low is = let s' : S = left s (step order s k g.args) in let here = first_done s k g (batch step order s' (k + 1) gs) (calls.0 s k) (omega arith) in
      let here' = first_done s k g (batch step order s' (k + 1) (gs ++ f ∷ [])) (calls.0 s k) (omega arith) in
      let is' : step order (after step order s' (k + 1) (batch step order s' (k + 1) gs)) (k + 1 + length gs) f.args ≡ Some (d, r)
      = ap (λ (m : ℕ). step order (after step order s' (k + 1) (batch step order s' (k + 1) gs)) m f.args) (let e : k + 1 + length gs ≡ k + length (g ∷ gs) = omega arith in e) ∙ (ap (λ (l : List Entry). step order (after step order s k l) (k + length (g ∷ gs)) f.args) (sym here.1) ∙ is) in
      let rest = batch_more s' (k + 1) gs f d r calls.1 (omega arith) is' in (
        same_first s k g (batch step order s' (k + 1) gs) (batch step order s' (k + 1) (gs ++ f ∷ [])) (entry_of f r) (calls.0 s k) (omega arith) rest.0,
        omega (arith, ap length here.1, rest.1),
      )
    where
      same_first : (s₀ : S) (k₀ : ℕ) (h : Found) (es es' : List Entry) (e : Entry) → IsSome (step order s₀ k₀ h.args) → k₀ < LAST_COUNT → es' ≡ es ++ e ∷ [] → batch_of step order k₀ h (step order s₀ k₀ h.args) es' ≡ batch_of step order k₀ h (step order s₀ k₀ h.args) es ++ e ∷ []
      same_first s₀ k₀ h es es' e some low₀ same = go (step order s₀ k₀ h.args) some
        where
          go : (o : Option (S × List ℕ)) → IsSome o → batch_of step order k₀ h o es' ≡ batch_of step order k₀ h o es ++ e ∷ []
          go (Some z) q = ap (λ (t : Bool). cond t (entry_of h z.1 ∷ es') []) (lt-ltb k₀ LAST_COUNT low₀) ∙ (ap (λ (l : List Entry). entry_of h z.1 ∷ l) same ∙ ap (λ (t : Bool). cond t (entry_of h z.1 ∷ es) [] ++ e ∷ []) (sym (lt-ltb k₀ LAST_COUNT low₀)))
          go None q = absurd (let z : false ≡ true = q in cc)

  -- at the limit
  pub batch_full : (s : S) (k : ℕ) (fs : List Found) (f : Found) → LAST_COUNT ≤ k + length fs → batch step order s k (fs ++ f ∷ []) ≡ batch step order s k fs
  batch_full s k [] f past = go (step order s k f.args)
    where
      at_limit : (e : Entry) (t : Bool) → nat_lt k LAST_COUNT ≡ t → cond t (e ∷ []) [] ≡ []
      at_limit e true is = absurd (let lt = Rattle.std.proofs.Math.Dec.ltb→lt k LAST_COUNT (subst lib.Dec.T (sym is) tt) in omega arith)
      at_limit e false is = refl

      go : (o : Option (S × List ℕ)) → batch_of step order k f o [] ≡ []
      go (Some d) = at_limit (entry_of f d.1) (nat_lt k LAST_COUNT) refl
      go None = refl
  batch_full s k (g ∷ gs) f past = ap (batch_of step order k g (step order s k g.args)) (batch_full (left s (step order s k g.args)) (k + 1) gs f (omega arith))

-- what a batch tells, with one call more
pub told_done : (k : ℕ) (fs : List Found) (es : List Entry) (f : Found) (e : Entry) → length es ≡ length fs → batch_told k (fs ++ f ∷ []) (es ++ e ∷ []) ≡ batch_told k fs es ++ (f, told.Done e.reply (k + length fs)) ∷ []
told_done k [] [] f e same = ap (λ (m : ℕ). let z : List Told = (f, told.Done e.reply m) ∷ [] in z) (let q : k ≡ k + 0 = omega arith in q)
told_done k [] (x ∷ es) f e same = absurd (omega arith)
told_done k (g ∷ fs) [] f e same = absurd (omega arith)
told_done k (g ∷ fs) (x ∷ es) f e same = ap (λ (l : List Told). (g, told.Done x.reply k) ∷ l) (told_done (k + 1) fs es f e (omega arith) ∙ ap (λ (m : ℕ). batch_told (k + 1) fs es ++ (f, told.Done e.reply m) ∷ []) (let q : k + 1 + length fs ≡ k + length (g ∷ fs) = omega arith in q))

pub told_spent : (k : ℕ) (fs : List Found) (es : List Entry) (f : Found) → length es ≤ length fs → batch_told k (fs ++ f ∷ []) es ≡ batch_told k fs es ++ (f, told.Spent) ∷ []
told_spent k [] [] f le = refl
told_spent k [] (x ∷ es) f le = absurd (omega arith)
told_spent k (g ∷ fs) [] f le = ap (λ (l : List Told). (g, told.Spent) ∷ l) (told_spent k fs [] f (omega arith))
told_spent k (g ∷ fs) (x ∷ es) f le = ap (λ (l : List Told). (g, told.Done x.reply k) ∷ l) (told_spent (k + 1) fs es f (omega arith))
