-- Callers and their peers as they are brought together and parted, and the status that is found of them.
use Rattle.std.proofs.Common.{◌≡◌, Bool, if◌then◌else◌, List, [], ◌∷◌, ◌++◌, map, length, reverse, sym, ap, ◌∙◌, arith, append_assoc}
use Rattle.std.proofs.lemmas.List.{append-nil, reverse-append}
use Rattle.std.specs.List.{list_any}
use Rattle.rom_talk.specs.Seated.{number_found}
use Rattle.rom_talk.specs.Talks.{is_unheard, is_unsaid}
use Rattle.rom_talk.specs.declared.talker.Talker.{Talker}

-- the last one of a list is the first one of the list turned round
turned : {X : Type 0} (xs : List X) (x : X) → reverse (xs ++ x ∷ []) ≡ x ∷ reverse xs
turned xs x = reverse-append xs (x ∷ [])

module _ {X Y : Type 0} (f : X → Y) where
  -- one more is brought to the others
  pub seated_one : (ys left all : List Y) (y : Y) (xs : List X) (x : X) → left ≡ ys ++ y ∷ [] → f x ≡ y → left ++ map f (reverse xs) ≡ all → ys ++ map f (reverse (xs ++ x ∷ [])) ≡ all
  seated_one ys left all y xs x was same before =
      let here : ys ++ map f (reverse (xs ++ x ∷ [])) ≡ ys ++ f x ∷ map f (reverse xs) = ap (λ zs. ys ++ map f zs) (turned xs x) in
      let named : ys ++ f x ∷ map f (reverse xs) ≡ ys ++ y ∷ map f (reverse xs) = ap (λ z. ys ++ z ∷ map f (reverse xs)) same in
      let joined : (ys ++ y ∷ []) ++ map f (reverse xs) ≡ ys ++ y ∷ map f (reverse xs) = append_assoc ys (y ∷ []) (map f (reverse xs)) in
      here ∙ (named ∙ (sym joined ∙ (ap (λ zs. zs ++ map f (reverse xs)) (sym was) ∙ before)))

  -- none is left to be brought
  pub all_seated : (left all : List Y) (xs : List X) → length left ≡ 0 → left ++ map f (reverse xs) ≡ all → map f (reverse xs) ≡ all
  all_seated [] all xs none is = is
  all_seated (y ∷ left) all xs none is = absurd (omega (arith, none))

  -- one more is parted from the others
  pub parted_one : (ys all : List Y) (y : Y) (xs ts : List X) (x : X) → ts ≡ xs ++ x ∷ [] → y ≡ f x → ys ++ map f (reverse ts) ≡ all → (ys ++ y ∷ []) ++ map f (reverse xs) ≡ all
  parted_one ys all y xs ts x was same before =
      let here : ys ++ map f (reverse ts) ≡ ys ++ f x ∷ map f (reverse xs) = ap (λ zs. ys ++ map f (reverse zs)) was ∙ ap (λ zs. ys ++ map f zs) (turned xs x) in
      let named : ys ++ y ∷ map f (reverse xs) ≡ ys ++ f x ∷ map f (reverse xs) = ap (λ z. ys ++ z ∷ map f (reverse xs)) same in
      append_assoc ys (y ∷ []) (map f (reverse xs)) ∙ (named ∙ (sym here ∙ before))

  -- none is left to be parted
  pub all_parted : (ys all : List Y) (ts : List X) → length ts ≡ 0 → ys ++ map f (reverse ts) ≡ all → ys ≡ all
  all_parted ys all [] none is = sym (append-nil ys) ∙ is
  all_parted ys all (t ∷ ts) none is = absurd (omega (arith, none))

-- the number of the status, by what is found of the talkers
pub number_by : {P : Type 0} (ts : List (Talker P)) (faulted unsaid unheard unread : Bool) → list_any (λ t. t.faulted) ts ≡ faulted → list_any (λ t. is_unsaid t.ending) ts ≡ unsaid → list_any (λ t. is_unheard t.ending) ts ≡ unheard → list_any (λ t. t.unread) ts ≡ unread →
    number_found ts ≡ (if faulted then 7 else if unsaid then 5 else if unheard then 4 else if unread then 1 else 0)
number_by ts faulted unsaid unheard unread a b c d = λ i. if a i then 7 else if b i then 5 else if c i then 4 else if d i then 1 else 0
