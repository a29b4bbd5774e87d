-- Fronts of lists and of texts.
use Rattle.std.specs.Prelude.{◌≡◌, ℕ, ◌+◌, ◌≤◌, List, [], ◌∷◌, ◌++◌, length, take, map, min}
use Rattle.std.proofs.Common.{refl, sym, ap, subst, ◌∙◌, arith, length-append, length-take}
use Rattle.std.proofs.lemmas.List.{take-append-le, take-take, take_all, take_at, take_min}
use Rattle.std.proofs.Math.Seq.{take-append-add}
use Rattle.rom_hear.specs.Talking.{IsFrontOf}

module _ {X : Type 0} where
  -- What holds of each element and the front before it in two lists, the first one before both fronts of the second, does so in both lists as one.
  pub each_of_both : (P : List X → X → Type 0) (xs ys : List X) → ((before after : List X) (y : X) → xs ≡ before ++ y ∷ after → P before y) → ((before after : List X) (y : X) → ys ≡ before ++ y ∷ after → P (xs ++ before) y) →
      (before after : List X) (y : X) → xs ++ ys ≡ before ++ y ∷ after → P before y
  each_of_both P [] ys first second before after y is = second before after y is
  each_of_both P (a ∷ xs) ys first second [] after y is =
      let same : a ≡ y = cc in
      subst (P []) same (first [] xs a refl)
  each_of_both P (a ∷ xs) ys first second (b ∷ before) after y is =
      let same : a ≡ b = cc in
      let rest : xs ++ ys ≡ before ++ y ∷ after = cc in
      let more : P (a ∷ before) y =
      each_of_both (λ l z. P (a ∷ l) z) xs ys (λ front later z e. first (a ∷ front) later z (ap (λ l. a ∷ l) e)) second before after y rest in
      subst (λ c. P (c ∷ before) y) same more

  -- so of each front
  pub front_of_both : (P : List X → Type 0) (xs ys : List X) → ((before after : List X) → xs ≡ before ++ after → P before) → ((before after : List X) → ys ≡ before ++ after → P (xs ++ before)) →
      (before after : List X) → xs ++ ys ≡ before ++ after → P before
  front_of_both P [] ys first second before after is = second before after is
  front_of_both P (a ∷ xs) ys first second [] after is = first [] (a ∷ xs) refl
  front_of_both P (a ∷ xs) ys first second (b ∷ before) after is =
      let same : a ≡ b = cc in
      let rest : xs ++ ys ≡ before ++ after = cc in
      let more : P (a ∷ before) = front_of_both (λ l. P (a ∷ l)) xs ys (λ front later e. first (a ∷ front) later (ap (λ l. a ∷ l) e)) second before after rest in
      subst (λ c. P (c ∷ before)) same more

-- an element of a mapped list, and the front before it
pub record MappedAt {X Y : Type 0} (f : Y → X) (ys : List Y) (before : List X) (x : X) : Type 0 where
  pub front : List Y
  pub rest : List Y
  pub y : Y
  pub split : ys ≡ front ++ y ∷ rest
  pub before_is : before ≡ map f front
  pub x_is : x ≡ f y

pub mapped_at : {X Y : Type 0} (f : Y → X) (ys : List Y) (before after : List X) (x : X) → map f ys ≡ before ++ x ∷ after → MappedAt f ys before x
mapped_at f [] before after x is = absurd (omega (arith, ap length is, length-append before (x ∷ after)))
mapped_at f (y ∷ ys) [] after x is =
    let same : f y ≡ x = cc in
    record { front = []; rest = ys; y = y; split = refl; before_is = refl; x_is = sym same }
mapped_at f (y ∷ ys) (b ∷ before) after x is =
    let same : f y ≡ b = cc in
    let rest : map f ys ≡ before ++ x ∷ after = cc in
    let more = mapped_at f ys before after x rest in
    record {
      front = y ∷ more.front;
      rest = more.rest;
      y = more.y;
      split = ap (λ l. y ∷ l) more.split;
      before_is = ap (λ c. c ∷ before) (sym same) ∙ ap (λ l. f y ∷ l) more.before_is;
      x_is = more.x_is;
    }

-- a front of a mapped list
pub record MappedFront {X Y : Type 0} (f : Y → X) (ys : List Y) (before : List X) : Type 0 where
  pub front : List Y
  pub rest : List Y
  pub split : ys ≡ front ++ rest
  pub before_is : before ≡ map f front

pub mapped_front : {X Y : Type 0} (f : Y → X) (ys : List Y) (before after : List X) → map f ys ≡ before ++ after → MappedFront f ys before
mapped_front f ys [] after is = record { front = []; rest = ys; split = refl; before_is = refl }
mapped_front f [] (b ∷ before) after is = absurd (omega (arith, ap length is, length-append (b ∷ before) after))
mapped_front f (y ∷ ys) (b ∷ before) after is =
    let same : f y ≡ b = cc in
    let rest : map f ys ≡ before ++ after = cc in
    let more = mapped_front f ys before after rest in
    record {
      front = y ∷ more.front;
      rest = more.rest;
      split = ap (λ l. y ∷ l) more.split;
      before_is = ap (λ c. c ∷ before) (sym same) ∙ ap (λ l. f y ∷ l) more.before_is;
    }

-- ---- fronts of texts

pub front_same : (xs ys : List ℕ) → xs ≡ ys → IsFrontOf xs ys
front_same xs ys is = (length xs, is ∙ sym (take_all (length xs) ys (omega (arith, ap length is))))

pub front_left : (xs ys : List ℕ) → IsFrontOf xs (xs ++ ys)
front_left xs ys = (length xs, sym (take_at xs ys (length xs) refl))

pub front_more : (xs ys zs : List ℕ) → IsFrontOf xs ys → IsFrontOf xs (ys ++ zs)
front_more xs ys zs front =
    let n : ℕ = min front.0 (length ys) in
    (n, front.1 ∙ sym (take_min front.0 ys) ∙ sym (take-append-le n ys zs (omega arith)))

pub front_behind : (xs ys zs : List ℕ) → IsFrontOf ys zs → IsFrontOf (xs ++ ys) (xs ++ zs)
front_behind xs ys zs front = (length xs + front.0, ap (λ (bs : List ℕ). xs ++ bs) front.1 ∙ sym (take-append-add xs zs front.0))

pub front_of_front : (xs ys zs : List ℕ) → IsFrontOf (xs ++ ys) zs → IsFrontOf xs zs
front_of_front xs ys zs front =
    let few : length xs ≤ front.0 = omega (arith, ap length front.1, length-append xs ys, length-take front.0 zs) in
    (length xs, sym (take_at xs ys (length xs) refl) ∙ ap (take (length xs)) front.1 ∙ take-take (length xs) front.0 zs few)
