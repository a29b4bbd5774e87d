-- Where the elements that were taken from a region stand.
use Rattle.std.proofs.Common.{◌≡◌, ℕ, zero, suc, ◌+◌, ◌-◌, ◌<◌, ◌≤◌, List, [], ◌∷◌, ◌++◌, map, reverse, length, get_or, refl, ◌∙◌, ap, arith, length-append}
use Rattle.std.proofs.lemmas.List.{length-map, length-reverse}
use Rattle.rom_rebuild.specs.declared.elements.element.Element.{Element}
use Rattle.rom_rebuild.specs.declared.elements.element.Element.TheVariants.{Value, Member, Pair}
use Rattle.rom_rebuild.specs.Elements.{paired}

at_past : (f : ℕ → Element) (xs : List ℕ) (rest : List Element) (i : ℕ) (d : Element) → length xs ≤ i → get_or (map f xs ++ rest) i d ≡ get_or rest (i - length xs) d
at_past f [] rest i d le = let e : i ≡ i - 0 = omega arith in ap (λ k. get_or rest k d) e
at_past f (x ∷ xs) rest zero d le = absurd (omega (arith, le))
at_past f (x ∷ xs) rest (suc i) d le = let e : i - length xs ≡ suc i - length (x ∷ xs) = omega arith in at_past f xs rest i d (omega (arith, le)) ∙ ap (λ k. get_or rest k d) e

at_pair : (ks vs : List ℕ) (i a b : ℕ) (d : Element) → i < length ks → length vs ≡ length ks → get_or (paired ks vs) i d ≡ Pair (get_or ks i a) (get_or vs i b)
at_pair [] vs i a b d lt same = absurd (omega (arith, lt))
at_pair (k ∷ ks) [] i a b d lt same = absurd (omega (arith, same))
at_pair (k ∷ ks) (v ∷ vs) zero a b d lt same = refl
at_pair (k ∷ ks) (v ∷ vs) (suc i) a b d lt same = at_pair ks vs i a b d (omega (arith, lt)) (omega (arith, same))

length_paired : (ks vs : List ℕ) → length vs ≡ length ks → length (paired ks vs) ≡ length ks
length_paired [] vs same = refl
length_paired (k ∷ ks) [] same = absurd (omega (arith, same))
length_paired (k ∷ ks) (v ∷ vs) same = ap suc (length_paired ks vs (omega (arith, same)))

module _ (queue members ks vs : List ℕ) (same : length vs ≡ length ks) where
  pub length_elements : length (map Value queue ++ (map Member (reverse members) ++ paired ks vs)) ≡ length queue + length members + length ks
  length_elements =
      omega (arith, length-append (map Value queue) (map Member (reverse members) ++ paired ks vs), length-append (map Member (reverse members)) (paired ks vs), length-map queue Value, length-map (reverse members) Member, length-reverse members, length_paired ks vs same)

  pub at_key : (i j a b : ℕ) (d : Element) → length queue + length members ≤ i → j ≡ i - length queue - length members → j < length ks → get_or (map Value queue ++ (map Member (reverse members) ++ paired ks vs)) i d ≡ Pair (get_or ks j a) (get_or vs j b)
  at_key i j a b d le is lt =
      at_past Value queue (map Member (reverse members) ++ paired ks vs) i d (omega (arith, le)) ∙ at_past Member (reverse members) (paired ks vs) (i - length queue) d (omega (arith, le, length-reverse members)) ∙ ap (λ k. get_or (paired ks vs) k d) (omega (arith, is, length-reverse members)) ∙ at_pair ks vs j a b d lt same
