-- The first free block, as it is looked for.
use Rattle.std.proofs.Common.{◌≡◌, inl, inr, ℕ, zero, suc, ◌+◌, ◌-◌, ◌*◌, ◌/◌, ◌^◌, ◌<◌, ◌≤◌, Bool, true, false, refl, sym, ◌∙◌, ap, subst, arith}
use Rattle.std.specs.Prelude.{Some, None, ◌||◌, not}
use Rattle.std.proofs.lemmas.Bool.{cases_lt}
use Rattle.std.proofs.Math.Nat.{mul-le-mul_right}
use Rattle.std.proofs.lemmas.Nat.{pow-add}
use Rattle.rom_model.specs.Blocks.{IsNode, IsFree, IsLowest, NoneFree, up}
use Rattle.rom_model.proofs.Nodes.{two_pow, up_up, root, up_least}
use Rattle.rom_blob_region.specs.State.{any_below, lies_in, is_free, first_number_where, lowest}

pub none_below : (m : ℕ) (test : ℕ → Bool) → any_below m test ≡ false → (k : ℕ) → k < m → test k ≡ false
none_below zero test none k lt = absurd (omega (arith, lt))
none_below (suc m) test none k lt = go (test m) refl (λ shut less. none_below m test shut k less) none
  where
    go : (t : Bool) → test m ≡ t → (any_below m test ≡ false → k < m → test k ≡ false) → (t || any_below m test) ≡ false → test k ≡ false
    go true here rest shut = absurd (let never : true ≡ false = shut in cc)
    go false here rest shut = elim (cases_lt k m) [
      | inl less ↦ rest shut less
      | inr ge ↦ let same : k ≡ m = omega (arith, lt, ge) in ap test same ∙ here
    ]

pub all_below : (m : ℕ) (test : ℕ → Bool) → ((k : ℕ) → k < m → test k ≡ false) → any_below m test ≡ false
all_below zero test none = refl
all_below (suc m) test none = rw (none m (omega arith)) (all_below m test (λ k lt. none k (omega (arith, lt))))

pub some_below : (m : ℕ) (test : ℕ → Bool) → any_below m test ≡ true → (k : ℕ) × (k < m) × (test k ≡ true)
some_below zero test some = absurd (let never : false ≡ true = some in cc)
some_below (suc m) test some = go (test m) refl (λ rest. some_below m test rest) some
  where
    go : (t : Bool) → test m ≡ t → (any_below m test ≡ true → (k : ℕ) × (k < m) × (test k ≡ true)) → (t || any_below m test) ≡ true → (k : ℕ) × (k < suc m) × (test k ≡ true)
    go true here more rest = (m, omega arith, here)
    go false here more rest = let x = more rest in (x.0, omega (arith, x.1), x.2)

-- a node and what is below it
up_mul : (k x : ℕ) → up k x * 2 ^ k ≤ x
up_mul zero x = omega arith
up_mul (suc k) x =
    let e : k + 1 ≡ suc k = omega arith in
    let p : 2 ^ suc k ≡ 2 * 2 ^ k = ap (λ a. 2 ^ a) (sym e) ∙ two_pow k in
    half_product (up k x) (2 ^ k) (2 ^ suc k) x p (up_mul k x)
  where
    mul_half : (a : ℕ) → a / 2 * 2 ≤ a
    mul_half a = omega arith

    half_product : (a p q x : ℕ) → q ≡ 2 * p → a * p ≤ x → a / 2 * q ≤ x
    half_product a p q x e le = omega (arith, mul-le-mul_right p (mul_half a), ap (λ y. a / 2 * y) e, le)

up_most : (k x : ℕ) → x < (up k x + 1) * 2 ^ k
up_most zero x = omega arith
up_most (suc k) x =
    let e : k + 1 ≡ suc k = omega arith in
    let p : 2 ^ suc k ≡ 2 * 2 ^ k = ap (λ a. 2 ^ a) (sym e) ∙ two_pow k in
    product (up k x) (2 ^ k) (2 ^ suc k) x p (up_most k x)
  where
    above_half : (a : ℕ) → a + 1 ≤ (a / 2 + 1) * 2
    above_half a = omega arith

    product : (a p q x : ℕ) → q ≡ 2 * p → x < (a + 1) * p → x < (a / 2 + 1) * q
    product a p q x e lt = omega (arith, mul-le-mul_right p (above_half a), ap (λ y. (a / 2 + 1) * y) e, lt)

-- two numbers whose multiples hold the same number are one
one_quotient : (p x y u : ℕ) → x * p ≤ u → u < (x + 1) * p → y * p ≤ u → u < (y + 1) * p → x ≡ y
one_quotient p x y u a b c d = elim (cases_lt x y) [
  | inl lt ↦ absurd (let step : x + 1 ≤ y = omega (arith, lt) in omega (arith, mul-le-mul_right p step, b, c))
  | inr ge ↦ elim (cases_lt y x) [
    | inl gt ↦ absurd (let step : y + 1 ≤ x = omega (arith, gt) in omega (arith, mul-le-mul_right p step, a, d))
    | inr le ↦ omega (arith, ge, le)
  ]
]

-- the node above, by the numbers
pub up_is : (k x i : ℕ) → i * 2 ^ k ≤ x → x < (i + 1) * 2 ^ k → up k x ≡ i
up_is k x i lo hi = one_quotient (2 ^ k) (up k x) i x (up_mul k x) (up_most k x) lo hi

pub up_below : (k x : ℕ) → (up k x * 2 ^ k ≤ x) × (x < (up k x + 1) * 2 ^ k)
up_below k x = (up_mul k x, up_most k x)

-- far above a unit there is nothing
pub up_none : (n u : ℕ) → IsNode n u → (k : ℕ) → n < k → up k u ≡ 0
up_none n u is k far =
    let e : suc (k - n - 1) + n ≡ k = omega (arith, far) in
    let at : up k u ≡ up (suc (k - n - 1)) 1 = ap (λ a. up a u) (sym e) ∙ sym (up_up (suc (k - n - 1)) n u) ∙ ap (λ a. up (suc (k - n - 1)) a) (root n u is) in
    omega (arith, at, up_least (k - n - 1) 1)

-- the units of a block
pub unit_of : (n depth order i r : ℕ) → depth + order ≡ n → IsNode depth i → r < 2 ^ order → IsNode n (i * 2 ^ order + r)
unit_of n depth order i r deep is lt =
    let p : 2 ^ n ≡ 2 ^ depth * 2 ^ order = ap (λ a. 2 ^ a) (sym deep) ∙ pow-add 2 depth order in
    let step : i + 1 ≤ 2 * 2 ^ depth = omega (arith, is.most) in
    record {
      least = omega (arith, p, mul-le-mul_right (2 ^ order) is.least);
      most = omega (arith, p, lt, mul-le-mul_right (2 ^ order) step);
    }

module _ (n : ℕ) (T : ℕ → Bool) (none : T 0 ≡ false) where
  pub free_sound : (depth order i : ℕ) → depth + order ≡ n → IsNode depth i → is_free n T order i ≡ true → IsFree n T order i
  free_sound depth order i deep is free u k unit above = elim (cases_lt n k) [
    | inl far ↦ ap T (up_none n u unit k far) ∙ none
    | inr near ↦
        let lo = up_mul order u in
        let hi = up_most order u in
        let r = u - i * 2 ^ order in
        let least : i * 2 ^ order ≤ u = subst (λ a. a * 2 ^ order ≤ u) above lo in
        let most : u < (i + 1) * 2 ^ order = subst (λ a. u < (a + 1) * 2 ^ order) above hi in
        let inside : r < 2 ^ order = omega (arith, least, most) in
        let at : i * 2 ^ order + r ≡ u = omega (arith, least) in
        let shut : any_below (2 ^ order) (λ r. lies_in n T (i * 2 ^ order + r)) ≡ false = negated (any_below (2 ^ order) (λ r. lies_in n T (i * 2 ^ order + r))) free in
        let lies : lies_in n T (i * 2 ^ order + r) ≡ false = none_below (2 ^ order) (λ r. lies_in n T (i * 2 ^ order + r)) shut r inside in
        ap (λ a. T (up k a)) (sym at) ∙ none_below (n + 1) (λ k. T (up k (i * 2 ^ order + r))) lies k (omega (arith, near))
  ]
    where
      negated : (b : Bool) → not b ≡ true → b ≡ false
      negated true is = absurd (let never : false ≡ true = is in cc)
      negated false is = refl

  pub free_tested : (depth order i : ℕ) → depth + order ≡ n → IsNode depth i → IsFree n T order i → is_free n T order i ≡ true
  free_tested depth order i deep is free =
      let shut : any_below (2 ^ order) (λ r. lies_in n T (i * 2 ^ order + r)) ≡ false =
      all_below (2 ^ order) (λ r. lies_in n T (i * 2 ^ order + r)) (λ r lt. all_below (n + 1) (λ k. T (up k (i * 2 ^ order + r)))
      (λ k near. free (i * 2 ^ order + r) k (unit_of n depth order i r deep is lt) (up_is order (i * 2 ^ order + r) i (omega arith) (omega (arith, lt))))) in
      ap not shut

  -- the first that passes
  first_here : (test : ℕ → Bool) (many at i : ℕ) → at ≤ i → i < at + many → test i ≡ true → ((y : ℕ) → at ≤ y → y < i → test y ≡ false) → first_number_where test at many ≡ Some i
  first_here test zero at i lo hi here before = absurd (omega (arith, lo, hi))
  first_here test (suc many) at i lo hi here before = elim (cases_lt at i) [
    | inl less ↦ rw (before at (omega arith) less) (first_here test many (at + 1) i (omega (arith, less)) (omega (arith, hi)) here (λ y ge lt. before y (omega (arith, ge)) lt))
    | inr ge ↦
        let same : at ≡ i = omega (arith, lo, ge) in
        let passes : test at ≡ true = ap test same ∙ here in
        rw passes (ap (λ x. Some x) same)
  ]

  first_none : (test : ℕ → Bool) (many at : ℕ) → ((y : ℕ) → at ≤ y → y < at + many → test y ≡ false) → first_number_where test at many ≡ None
  first_none test zero at none = refl
  first_none test (suc many) at none = rw (none at (omega arith) (omega arith)) (first_none test many (at + 1) (λ y lo hi. none y (omega (arith, lo)) (omega (arith, hi))))

  shut_where : (depth order y : ℕ) → depth + order ≡ n → IsNode depth y → (IsFree n T order y → ⊥) → is_free n T order y ≡ false
  shut_where depth order y deep is never = go (is_free n T order y) refl
    where
      go : (b : Bool) → is_free n T order y ≡ b → is_free n T order y ≡ false
      go true free = absurd (never (free_sound depth order y deep is free))
      go false shut = shut

  pub lowest_some : (order i : ℕ) → IsLowest n T order i → lowest n T order ≡ Some i
  lowest_some order i is =
      let deep : n - order + order ≡ n = omega (arith, is.within) in
      let node = is.node (n - order) deep in
      first_here (is_free n T order) (2 ^ (n - order)) (2 ^ (n - order)) i node.least (omega (arith, node.most)) (free_tested (n - order) order i deep node is.free)
      (λ y lo lt. shut_where (n - order) order y deep record { least = lo; most = omega (arith, lt, node.most) } (λ free. absurd (omega (arith, lt, is.first (n - order) y deep record { least = lo; most = omega (arith, lt, node.most) } free))))

  pub lowest_none : (order : ℕ) → order ≤ n → NoneFree n T order → lowest n T order ≡ None
  lowest_none order le is =
      let deep : n - order + order ≡ n = omega (arith, le) in
      first_none (is_free n T order) (2 ^ (n - order)) (2 ^ (n - order))
      (λ y lo hi. shut_where (n - order) order y deep record { least = lo; most = omega (arith, hi) } (λ free. is (n - order) y deep record { least = lo; most = omega (arith, hi) } free))
