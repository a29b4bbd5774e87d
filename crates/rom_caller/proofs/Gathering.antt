-- What a caller that comes back has done, at its place.
use Rattle.std.proofs.Common.{◌≡◌, ℕ, ◌+◌, subst, sym, ap, ◌∙◌, arith}
use Rattle.std.specs.Prelude.{◌<◌, List, [], ◌∷◌, None, Option, Some, get_or, length, map, slice_get}
use Rattle.std.specs.List.{Contains}
use Rattle.std.proofs.Common.{refl, zero, suc}
use Rattle.std.proofs.lemmas.List.Elements.{Contains-append_right}
use Rattle.std.proofs.lemmas.Option.{slice_get-get_or, slice_get_within}
use Rattle.atomic_table.specs.Seated.{TableId}
use Rattle.rom_model.specs.declared.kept.Kept.{Kept}
use Rattle.rom_rule.specs.declared.views.Base.{Base}
use Rattle.rom_store.specs.Callers.{Caller, IsNumberedCaller}
use Rattle.rom_store.specs.Closing.{joined_of, kept_in}
use Rattle.rom_store.specs.Indexed.{Both, Indexed}
use Rattle.rom_caller.specs.Working.{HasComeBack, HasDone, IsFor}

some_one : {X : Type 0} (x y : X) → Some x ≡ Some y → x ≡ y
some_one x y is = cc

module _ {S T : Type 0} (Contents : ℕ → List ℕ → S → ℕ → Type 0) (table : TableId) (base : Base) (Did : Base → ℕ → Kept → T → Type 0) where
  -- by what was taken out of its job
  pub done_at : (i : ℕ) (pass : Option Caller) (out : Option T) (p : Caller) (t : T) → pass ≡ Some p → out ≡ Some t → HasDone Contents table base Did i pass out → IsNumberedCaller Contents table base i p × Did base i (kept_in p) t
  done_at i pass out p t pass_is out_is is =
      let same : is.caller ≡ p = some_one is.caller p (sym is.pass_is ∙ pass_is) in
      let told : is.told ≡ t = some_one is.told t (sym is.out_is ∙ out_is) in
      (subst (IsNumberedCaller Contents table base i) same is.numbered, subst (λ (z : Caller × T). Did base i (kept_in z.0) z.1) (λ k. (same k, told k)) is.did)

  -- the jobs after their work, from the jobs before it
  pub all_done : {J : Type 0} (pass : J → Option Caller) (out : J → Option T) (olds news : List J) → length news ≡ length olds → Indexed (λ i job. IsFor Contents table base i (pass job)) olds →
      ((j : ℕ) (a b : J) → slice_get olds j ≡ Some a → slice_get news j ≡ Some b → HasComeBack Contents table base Did (pass a) (pass b) (out b)) →
      Indexed (λ i job. HasDone Contents table base Did i (pass job) (out job)) news
  all_done {J} pass out olds news as_many next done = record {
    at = λ i b now.
        let lt : i < length olds = omega (arith, slice_get_within news i b now, as_many) in
        let a : J = get_or olds i b in
        let was : slice_get olds i ≡ Some a = slice_get-get_or olds i b lt in
        let is = next.at i a was in
        (done i a b was now).done i is.caller is.pass_is is.new.numbered.number;
  }

no_none : {X : Type 0} (x : X) → None ≡ Some x → ⊥
no_none x is = cc

-- what each of some callers keeps is among what the writer keeps that has taken them in
pub among : (ps : List Caller) (i : ℕ) (p : Caller) → slice_get ps i ≡ Some p → Contains (joined_of ps) (kept_in p)
among [] i p at = absurd (no_none p at)
among (q ∷ ps) zero p at = subst (λ (z : Caller). Contains (joined_of (q ∷ ps)) (kept_in z)) (some_one q p at) (0, omega arith, refl)
among (q ∷ ps) (suc i) p at = Contains-append_right (kept_in q ∷ q.view.joined) (joined_of ps) (kept_in p) (among ps i p at)

of_map : {X Y : Type 0} (f : X → Y) (xs : List X) (i : ℕ) (y : Y) → slice_get (map f xs) i ≡ Some y → (x : X) × (slice_get xs i ≡ Some x) × (f x ≡ y)
of_map f [] i y at = absurd (no_none y at)
of_map f (x ∷ xs) zero y at = (x, refl, some_one (f x) y at)
of_map f (x ∷ xs) (suc i) y at = of_map f xs i y at

-- what each caller keeps, at its place
pub keeps_at : {S : Type 0} (Contents : ℕ → List ℕ → S → ℕ → Type 0) (table : TableId) (base : Base) (ps : List Caller) (callers : List Kept) → callers ≡ joined_of ps → Indexed (IsNumberedCaller Contents table base) ps → Indexed (λ i v. (v.number ≡ i + 1) × Contains callers v) (map kept_in ps)
keeps_at Contents table base ps callers same all = record {
  at = λ i v there.
      let (p, at, is) = of_map kept_in ps i v there in
      let number : p.view.number ≡ i + 1 = (all.at i p at).number in
      (ap (λ (w : Kept). w.number) (sym is) ∙ number, subst (λ (z : List Kept × Kept). Contains z.0 z.1) (λ k. (sym same k, is k)) (among ps i p at));
}

-- and what it did
pub did_at : {T : Type 0} (P : ℕ → Kept → T → Type 0) (ps : List Caller) (ts : List T) → Both (λ i p t. P i (kept_in p) t) ps ts → Both P (map kept_in ps) ts
did_at P ps ts all = record { at = λ i v t there told. let (p, at, is) = of_map kept_in ps i v there in subst (λ (w : Kept). P i w t) is (all.at i p t at told) }
