-- Parts of lists that are compared element by element.
use Rattle.std.proofs.Common.{◌≡◌, ℕ, zero, suc, ◌+◌, ◌<◌, List, [], ◌∷◌, ◌++◌, length, map, take, refl, ap, ◌∙◌, arith}
use Rattle.std.specs.Prelude.{Some, slice_get}

-- there is an element at an index within
pub there : {X : Type 0} (xs : List X) (i : ℕ) → i < length xs → (x : X) × (slice_get xs i ≡ Some x)
there [] i within = absurd (omega (arith, within))
there (x ∷ xs) zero within = (x, refl)
there (x ∷ xs) (suc i) within = there xs i (omega (arith, within))

-- the first elements have it at the same index
pub get_in_take : {X : Type 0} (n i : ℕ) (xs : List X) → i < n → slice_get (take n xs) i ≡ slice_get xs i
get_in_take zero i xs lt = absurd (omega (arith, lt))
get_in_take (suc n) i [] lt = refl
get_in_take (suc n) zero (x ∷ xs) lt = refl
get_in_take (suc n) (suc i) (x ∷ xs) lt = get_in_take n i xs (omega (arith, lt))

-- the one behind others
pub get_behind : {X : Type 0} (xs ys : List X) (y : X) → slice_get (xs ++ y ∷ ys) (length xs) ≡ Some y
get_behind [] ys y = refl
get_behind (x ∷ xs) ys y = get_behind xs ys y

-- lists that agree in two ways agree in both
pub both_agree : {X Y A B : Type 0} (f : X → A) (g : X → B) (h : Y → A) (k : Y → B) (xs : List X) (ys : List Y) → map f xs ≡ map h ys → map g xs ≡ map k ys → map (λ x. let z : A × B = (f x, g x) in z) xs ≡ map (λ y. let z : A × B = (h y, k y) in z) ys
both_agree f g h k [] [] one two = refl
both_agree f g h k [] (y ∷ ys) one two = cc
both_agree f g h k (x ∷ xs) [] one two = cc
both_agree f g h k (x ∷ xs) (y ∷ ys) one two =
    let first : f x ≡ h y = cc in
    let second : g x ≡ k y = cc in
    let firsts : map f xs ≡ map h ys = cc in
    let seconds : map g xs ≡ map k ys = cc in
    λ i. (first i, second i) ∷ both_agree f g h k xs ys firsts seconds i

pub no_element : {X : Type 0} (xs : List X) → length xs ≡ 0 → xs ≡ []
no_element [] none = refl
no_element (x ∷ xs) none = absurd (omega (arith, none))

-- what two lists have at a place behind the first
pub get_past : {X : Type 0} (xs ys : List X) (i : ℕ) → slice_get (xs ++ ys) (length xs + i) ≡ slice_get ys i
get_past [] ys i = ap (λ (k : ℕ). slice_get ys k) (let same : 0 + i ≡ i = omega arith in same)
get_past (x ∷ xs) ys i = ap (λ (k : ℕ). slice_get (x ∷ (xs ++ ys)) k) (let same : suc (length xs) + i ≡ suc (length xs + i) = omega arith in same) ∙ get_past xs ys i

-- lists that agree in both ways agree in the first
pub first_agrees : {X Y A B : Type 0} (f : X → A) (g : X → B) (h : Y → A) (k : Y → B) (xs : List X) (ys : List Y) → map (λ x. let z : A × B = (f x, g x) in z) xs ≡ map (λ y. let z : A × B = (h y, k y) in z) ys → map f xs ≡ map h ys
first_agrees f g h k [] [] both = refl
first_agrees f g h k [] (y ∷ ys) both = cc
first_agrees f g h k (x ∷ xs) [] both = cc
first_agrees {A = A} {B = B} f g h k (x ∷ xs) (y ∷ ys) both =
    let one : A × B = (f x, g x) in
    let other : A × B = (h y, k y) in
    let same : one ≡ other = cc in
    let rest : map (λ x. let z : A × B = (f x, g x) in z) xs ≡ map (λ y. let z : A × B = (h y, k y) in z) ys = cc in
    λ i. (same i).0 ∷ first_agrees f g h k xs ys rest i
