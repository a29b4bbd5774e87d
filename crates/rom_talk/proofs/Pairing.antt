-- Facts about all elements of a list, or of two lists at the same places, also where they are turned round.
use Rattle.std.proofs.Common.{◌≡◌, ℕ, suc, Bool, ◌||◌, true, false, List, [], ◌∷◌, ◌++◌, map, length, reverse, refl, sym, ap, ◌∙◌, subst, arith, Some}
use Rattle.std.specs.Prelude.{slice_get}
use Rattle.std.specs.List.{AllByRecursion, list_any}
use Rattle.std.proofs.lemmas.List.{reverse-append, reverse-reverse}
use Rattle.std.proofs.lemmas.List.Folds.{list_any-append}
use Rattle.rom_store.specs.Indexed.{Indexed}

or_turned : (a b : Bool) → (a || (b || false)) ≡ (b || a)
or_turned true true = refl
or_turned true false = refl
or_turned false true = refl
or_turned false false = refl

module _ {X : Type 0} where
  pub each_indexed : (P : ℕ → X → Type 0) (F : X → Type 0) (xs : List X) → ((i : ℕ) (x : X) → P i x → F x) → Indexed P xs → AllByRecursion F xs
  each_indexed P F [] to all = tt
  each_indexed P F (x ∷ xs) to all = (to 0 x (all.at 0 x refl), each_indexed (λ i. P (suc i)) F xs (λ i. to (suc i)) (record { at = λ i y at. all.at (suc i) y at }))

  each_joined : (F : X → Type 0) (xs ys : List X) → AllByRecursion F xs → AllByRecursion F ys → AllByRecursion F (xs ++ ys)
  each_joined F [] ys all more = more
  each_joined F (x ∷ xs) ys (is, all) more = (is, each_joined F xs ys all more)

  each_turned : (F : X → Type 0) (xs : List X) → AllByRecursion F xs → AllByRecursion F (reverse xs)
  each_turned F [] all = tt
  each_turned F (x ∷ xs) (is, all) = subst (AllByRecursion F) (sym (reverse-append (x ∷ []) xs)) (each_joined F (reverse xs) (x ∷ []) (each_turned F xs all) (is, tt))

  pub each_back : (F : X → Type 0) (xs : List X) → AllByRecursion F (reverse xs) → AllByRecursion F xs
  each_back F xs all = subst (AllByRecursion F) (reverse-reverse xs) (each_turned F (reverse xs) all)

  pub each_of_two : (F G H : X → Type 0) (xs : List X) → ((x : X) → F x → G x → H x) → AllByRecursion F xs → AllByRecursion G xs → AllByRecursion H xs
  each_of_two F G H [] to all more = tt
  each_of_two F G H (x ∷ xs) to (is, all) (so, more) = (to x is so, each_of_two F G H xs to all more)

  pub each_unmapped : {Y : Type 0} (F : Y → Type 0) (f : X → Y) (xs : List X) → AllByRecursion F (map f xs) → AllByRecursion (λ x. F (f x)) xs
  each_unmapped F f [] all = tt
  each_unmapped F f (x ∷ xs) (is, all) = (is, each_unmapped F f xs all)

  pub any_turned : (test : X → Bool) (xs : List X) → list_any test (reverse xs) ≡ list_any test xs
  any_turned test [] = refl
  any_turned test (x ∷ xs) = ap (list_any test) (reverse-append (x ∷ []) xs) ∙ (list_any-append test (reverse xs) (x ∷ []) ∙ (or_turned (list_any test (reverse xs)) (test x) ∙ ap (λ b. test x || b) (any_turned test xs)))

  pub any_mapped : {Y : Type 0} (f : X → Y) (test : Y → Bool) (xs : List X) → list_any test (map f xs) ≡ list_any (λ x. test (f x)) xs
  any_mapped f test [] = refl
  any_mapped f test (x ∷ xs) = ap (λ b. test (f x) || b) (any_mapped f test xs)

-- each element of the one list and that of the other list at its place; the lists are of one length
abbrev pub Pairs : {X Y : Type 0} → (X → Y → Type 0) → List X → List Y → Type 0
Pairs R [] [] = Unit {0}
Pairs R (x ∷ xs) (y ∷ ys) = R x y × Pairs R xs ys
Pairs R xs ys = ⊥

module _ {X Y : Type 0} (R : X → Y → Type 0) where
  pub pairs_of : (xs : List X) (ys : List Y) → length ys ≡ length xs → ((i : ℕ) (x : X) (y : Y) → slice_get xs i ≡ Some x → slice_get ys i ≡ Some y → R x y) → Pairs R xs ys
  pairs_of [] [] many each = tt
  pairs_of (x ∷ xs) (y ∷ ys) many each = (each 0 x y refl refl, pairs_of xs ys (omega (arith, many)) (λ i a b at there. each (suc i) a b at there))
  pairs_of [] (y ∷ ys) many each = absurd (omega (arith, many))
  pairs_of (x ∷ xs) [] many each = absurd (omega (arith, many))

  pairs_joined : (xs us : List X) (ys vs : List Y) → Pairs R xs ys → Pairs R us vs → Pairs R (xs ++ us) (ys ++ vs)
  pairs_joined [] us [] vs all more = more
  pairs_joined (x ∷ xs) us (y ∷ ys) vs (is, all) more = (is, pairs_joined xs us ys vs all more)
  pairs_joined [] us (y ∷ ys) vs all more = absurd all
  pairs_joined (x ∷ xs) us [] vs all more = absurd all

  pub pairs_turned : (xs : List X) (ys : List Y) → Pairs R xs ys → Pairs R (reverse xs) (reverse ys)
  pairs_turned [] [] all = tt
  pairs_turned (x ∷ xs) (y ∷ ys) (is, all) = subst (λ (z : List X × List Y). Pairs R z.0 z.1) (λ j. (sym (reverse-append (x ∷ []) xs) j, sym (reverse-append (y ∷ []) ys) j))
      (pairs_joined (reverse xs) (x ∷ []) (reverse ys) (y ∷ []) (pairs_turned xs ys all) (is, tt))
  pairs_turned [] (y ∷ ys) all = absurd all
  pairs_turned (x ∷ xs) [] all = absurd all

  pub pairs_many : (xs : List X) (ys : List Y) → Pairs R xs ys → length ys ≡ length xs
  pairs_many [] [] all = refl
  pairs_many (x ∷ xs) (y ∷ ys) (is, all) = ap suc (pairs_many xs ys all)
  pairs_many [] (y ∷ ys) all = absurd all
  pairs_many (x ∷ xs) [] all = absurd all
