-- Facts about the elements of a list at their places, as it grows and shrinks at its end.
use Rattle.std.proofs.Common.{◌≡◌, ◌≢◌, ℕ, zero, suc, ◌+◌, ◌<◌, List, [], ◌∷◌, ◌++◌, map, length, get_or, refl, sym, ap, ◌∙◌, subst, arith, Some, None, take, drop, set}
use Rattle.std.specs.Prelude.{slice_get, All}
use Rattle.std.proofs.lemmas.Option.{slice_get-get_or}
use Rattle.rom_store.specs.Indexed.{Indexed, Both}
use Rattle.std.proofs.lemmas.List.{take-append-le, take_all}
use native.Mathlib.Decide.{ℕ_discrete}

some_one : {X : Type 0} (x y : X) → Some x ≡ Some y → x ≡ y
some_one x y is = cc

no_none : {X : Type 0} (x : X) → None ≡ Some x → ⊥
no_none x is = cc

at_front : {X : Type 0} (xs ys : List X) (i : ℕ) (x : X) → slice_get xs i ≡ Some x → slice_get (xs ++ ys) i ≡ Some x
at_front [] ys i x at = absurd (no_none x at)
at_front (y ∷ xs) ys zero x at = at
at_front (y ∷ xs) ys (suc i) x at = at_front xs ys i x at

pub at_end : {X : Type 0} (xs : List X) (x : X) → slice_get (xs ++ x ∷ []) (length xs) ≡ Some x
at_end [] x = refl
at_end (y ∷ xs) x = at_end xs x

module _ {X : Type 0} (P : ℕ → X → Type 0) where
  pub none_at : (xs : List X) → xs ≡ [] → Indexed P xs
  none_at xs is = subst (Indexed P) (sym is) (record { at = λ i x at. absurd (no_none x at) })

  pub front_at : (xs ys : List X) → Indexed P (xs ++ ys) → Indexed P xs
  front_at xs ys all = record { at = λ i y at. all.at i y (at_front xs ys i y at) }

  pub pop_at : (xs : List X) (x : X) → Indexed P (xs ++ x ∷ []) → Indexed P xs
  pop_at xs x all = front_at xs (x ∷ []) all

  pub last_at : (xs : List X) (x : X) → Indexed P (xs ++ x ∷ []) → P (length xs) x
  last_at xs x all = all.at (length xs) x (at_end xs x)

  one_of : (xs : List X) (x y : X) (i k : ℕ) → slice_get (xs ++ x ∷ []) i ≡ Some y → ((j : ℕ) (z : X) → slice_get xs j ≡ Some z → P (k + j) z) → P (k + length xs) x → P (k + i) y
  one_of [] x y zero k at all is = subst (P (k + 0)) (some_one x y at) is
  one_of [] x y (suc i) k at all is = absurd (no_none y at)
  one_of (z ∷ xs) x y zero k at all is = all 0 y at
  one_of (z ∷ xs) x y (suc i) k at all is =
      let here : k + suc i ≡ k + 1 + i = omega arith in let last : k + length (z ∷ xs) ≡ k + 1 + length xs = omega arith in
      subst (λ n. P n y) (sym here) (one_of xs x y i (k + 1) at (λ j w there. let same : k + suc j ≡ k + 1 + j = omega arith in subst (λ n. P n w) same (all (suc j) w there)) (subst (λ n. P n x) last is))

  pub push_at : (xs : List X) (x : X) → Indexed P xs → P (length xs) x → Indexed P (xs ++ x ∷ [])
  push_at xs x all is = record {
    at = λ i y at.
        let here : 0 + i ≡ i = omega arith in let last : length xs ≡ 0 + length xs = omega arith in
        subst (λ n. P n y) here (one_of xs x y i 0 at (λ j z there. let same : j ≡ 0 + j = omega arith in subst (λ n. P n z) same (all.at j z there)) (subst (λ n. P n x) last is));
  }

pub all_of : {X : Type 0} (P : ℕ → X → Type 0) (F : X → Type 0) (xs : List X) → ((i : ℕ) (x : X) → P i x → F x) → Indexed P xs → All F xs
all_of P F xs each all = λ i d lt. each i (get_or xs i d) (all.at i (get_or xs i d) (slice_get-get_or xs i d lt))

-- of two lists of one length
at_either : {X : Type 0} (xs : List X) (x y : X) (i : ℕ) → slice_get (xs ++ x ∷ []) i ≡ Some y → (i ≢ length xs → slice_get xs i ≡ Some y) × (i ≡ length xs → x ≡ y)
at_either [] x y zero at = (λ no. absurd (no refl), λ is. some_one x y at)
at_either [] x y (suc i) at = (λ no. absurd (no_none y at), λ is. absurd (let no : ⊥ = omega arith in no))
at_either (z ∷ xs) x y zero at = (λ no. at, λ is. absurd (let no : ⊥ = omega arith in no))
at_either (z ∷ xs) x y (suc i) at = let rest : (i ≢ length xs → slice_get xs i ≡ Some y) × (i ≡ length xs → x ≡ y) = at_either xs x y i at in
    (λ no. rest.0 (λ same. no (ap suc same)), λ is. rest.1 (omega arith))

module _ {X Y : Type 0} (P : ℕ → X → Y → Type 0) where
  pub none_both : (xs : List X) (ys : List Y) → xs ≡ [] → Both P xs ys
  none_both xs ys is = subst (λ zs. Both P zs ys) (sym is) (record { at = λ i x y at there. absurd (no_none x at) })

  pub push_both : (xs : List X) (ys : List Y) (x : X) (y : Y) → length xs ≡ length ys → Both P xs ys → P (length xs) x y → Both P (xs ++ x ∷ []) (ys ++ y ∷ [])
  push_both xs ys x y same all is = record {
    at = λ i a b at there.
        let f : (i ≢ length xs → slice_get xs i ≡ Some a) × (i ≡ length xs → x ≡ a) = at_either xs x a i at in
        let h : (i ≢ length ys → slice_get ys i ≡ Some b) × (i ≡ length ys → y ≡ b) = at_either ys y b i there in
        by i a b f h (ℕ_discrete i (length xs));
  }
    where
      by : (i : ℕ) (a : X) (b : Y) → (i ≢ length xs → slice_get xs i ≡ Some a) × (i ≡ length xs → x ≡ a) → (i ≢ length ys → slice_get ys i ≡ Some b) × (i ≡ length ys → y ≡ b) → Dec (i ≡ length xs) → P i a b
      by i a b f h (yes e) = subst (λ (z : ℕ × (X × Y)). P z.0 z.1.0 z.1.1) (λ j. (sym e j, (f.1 e j, h.1 (e ∙ same) j))) is
      by i a b f h (no n) = all.at i a b (f.0 n) (h.0 (λ e. n (e ∙ sym same)))

-- what is left of a list that is written over by one of its length
pub written_back : {X : Type 0} (news olds : List X) (n : ℕ) → length news ≡ n → take n (news ++ drop (length news) olds) ≡ news
written_back news olds n long = take-append-le n news (drop (length news) olds) (omega (arith, long)) ∙ take_all n news (omega (arith, long))

at_set : {X : Type 0} (xs : List X) (i j : ℕ) (x y : X) → slice_get (set xs i x) j ≡ Some y → (j ≢ i → slice_get xs j ≡ Some y) × (j ≡ i → x ≡ y)
at_set [] i j x y at = absurd (no_none y at)
at_set (z ∷ xs) zero zero x y at = (λ no. absurd (no refl), λ is. some_one x y at)
at_set (z ∷ xs) zero (suc j) x y at = (λ no. at, λ is. absurd (let no : ⊥ = omega arith in no))
at_set (z ∷ xs) (suc i) zero x y at = (λ no. at, λ is. absurd (let no : ⊥ = omega arith in no))
at_set (z ∷ xs) (suc i) (suc j) x y at = let rest : (j ≢ i → slice_get xs j ≡ Some y) × (j ≡ i → x ≡ y) = at_set xs i j x y at in
    (λ no. rest.0 (λ same. no (ap suc same)), λ is. rest.1 (omega arith))

-- one element is replaced
pub set_one : {X : Type 0} (P Q : ℕ → X → Type 0) (xs : List X) (i : ℕ) (x : X) → ((j : ℕ) (y : X) → j ≢ i → P j y → Q j y) → Q i x → Indexed P xs → Indexed Q (set xs i x)
set_one {X} P Q xs i x keeps is all = record { at = λ j y at. by j y (at_set xs i j x y at) (ℕ_discrete j i) }
  where
    by : (j : ℕ) (y : X) → (j ≢ i → slice_get xs j ≡ Some y) × (j ≡ i → x ≡ y) → Dec (j ≡ i) → Q j y
    by j y t (yes e) = subst (λ (z : ℕ × X). Q z.0 z.1) (λ k. (sym e k, t.1 e k)) is
    by j y t (no n) = keeps j y n (all.at j y (t.0 n))

pub at_get : {X : Type 0} (P : ℕ → X → Type 0) (xs : List X) (i : ℕ) (d : X) → i < length xs → Indexed P xs → P i (get_or xs i d)
at_get P xs i d lt all = all.at i (get_or xs i d) (slice_get-get_or xs i d lt)

of_map : {X Y : Type 0} (f : X → Y) (xs : List X) (i : ℕ) (y : Y) → slice_get (map f xs) i ≡ Some y → (x : X) × (slice_get xs i ≡ Some x) × (f x ≡ y)
of_map f [] i y at = absurd (no_none y at)
of_map f (x ∷ xs) zero y at = (x, refl, some_one (f x) y at)
of_map f (x ∷ xs) (suc i) y at = of_map f xs i y at

pub map_at : {X Y : Type 0} (P : ℕ → X → Type 0) (Q : ℕ → Y → Type 0) (f : X → Y) (xs : List X) → ((i : ℕ) (x : X) → slice_get xs i ≡ Some x → P i x → Q i (f x)) → Indexed P xs → Indexed Q (map f xs)
map_at P Q f xs to all = record { at = λ i y at. let x = of_map f xs i y at in subst (Q i) x.2 (to i x.0 x.1 (all.at i x.0 x.1)) }
