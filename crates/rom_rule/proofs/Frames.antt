-- What a step leaves alone: a list of views seen through one part of them, and facts about each of its members
use Rattle.std.proofs.Common.{◌≡◌, ◌≢◌, ℕ, List, map, set, sym, ap, ◌∙◌, subst, ⊎_elim}
use mathlib.Core.Option.{some}
use lib.ListN.{get_elem?}
use lib.Seq.{map-set}
use Rattle.atomic_table.proofs.Lists.{at_set, at_map, set_again}
use Rattle.rom_rule.specs.Views.{Each}

module _ {A B : Type 0} where
  -- a part that the step leaves alone
  pub unseen : (p : A → B) (xs : List A) (id : ℕ) (v w : A) → get_elem? xs id ≡ some v → p w ≡ p v → map p (set xs id w) ≡ map p xs
  unseen p xs id v w at same = map-set p xs id w ∙ set_again (map p xs) id (p w) (at_map p xs id v at ∙ ap some (sym same))

  -- the frame law: an invariant that reads the views through p alone
  pub frame : (p : A → B) (I : List B → Type 0) (xs : List A) (id : ℕ) (v w : A) → get_elem? xs id ≡ some v → p w ≡ p v → I (map p xs) → I (map p (set xs id w))
  frame p I xs id v w at same h = subst I (sym (unseen p xs id v w at same)) h

  -- a fact about each, where one part of one member changes
  pub each_set : (P Q : ℕ → B → Type 0) (p : A → B) (xs : List A) (id : ℕ) (w : A) → ((j : ℕ) (b : B) → j ≢ id → P j b → Q j b) → Q id (p w) → Each P (map p xs) → Each Q (map p (set xs id w))
  each_set P Q p xs id w keeps here h j b e =
      let e' : get_elem? (set (map p xs) id (p w)) j ≡ some b = subst (λ (l : List B). get_elem? l j ≡ some b) (map-set p xs id w) e in
      ⊎_elim (λ (t : (j ≡ id) × (p w ≡ b)). subst (λ (x : ℕ × B). Q x.0 x.1) (λ i. (sym t.0 i, t.1 i)) here)
      (λ (t : (j ≢ id) × (get_elem? (map p xs) j ≡ some b)). keeps j b t.0 (h j b t.1)) (at_set (map p xs) id j (p w) b e')

  -- the same, where the member's place is known
  pub each_set_at : (P Q : ℕ → B → Type 0) (p : A → B) (xs : List A) (id : ℕ) (w : A) → ((j : ℕ) (b : B) → j ≢ id → get_elem? (map p xs) j ≡ some b → P j b → Q j b) → Q id (p w) → Each P (map p xs) → Each Q (map p (set xs id w))
  each_set_at P Q p xs id w keeps here h j b e =
      let e' : get_elem? (set (map p xs) id (p w)) j ≡ some b = subst (λ (l : List B). get_elem? l j ≡ some b) (map-set p xs id w) e in
      ⊎_elim (λ (t : (j ≡ id) × (p w ≡ b)). subst (λ (x : ℕ × B). Q x.0 x.1) (λ i. (sym t.0 i, t.1 i)) here)
      (λ (t : (j ≢ id) × (get_elem? (map p xs) j ≡ some b)). keeps j b t.0 t.1 (h j b t.1)) (at_set (map p xs) id j (p w) b e')

  pub each_at : (P : ℕ → B → Type 0) (p : A → B) (xs : List A) (id : ℕ) (v : A) → get_elem? xs id ≡ some v → Each P (map p xs) → P id (p v)
  each_at P p xs id v at h = h id (p v) (at_map p xs id v at)
