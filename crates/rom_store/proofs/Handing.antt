-- What is handed on of a history, over two batches as over one.
use Rattle.std.proofs.Common.{◌≡◌, ◌⊎◌, inl, inr, ℕ, ◌+◌, Bool, true, false, List, [], ◌∷◌, ◌++◌, length, map, take, drop, min, refl, sym, ap, ◌∙◌, subst, arith, append_assoc}
use Rattle.std.proofs.lemmas.List.{length-map, map-append, take-append-le, take_min}
use Rattle.std.proofs.KnownBytes.{Appends-nil, Appends-trans}
use Rattle.std.proofs.Math.Nat.{min-le_right}
use Rattle.std.proofs.Math.Seq.{drop-append_seam, take-append-add}
use Rattle.std.specs.Io.KnownBytes.{Appends}
use Rattle.rom_model.specs.Faults.{counted}
use Rattle.rom_model.specs.declared.entry.Entry.{Entry}
use Rattle.rom_combine.specs.Shipping.{Shipped, Ships, text_from, update_of}

module _ (text : ℕ → List ℕ → List ℕ → List ℕ) where
  -- the text of updates, and of more behind them, whose first has the place past these
  text_from-append : (place : ℕ) (us vs : List (List ℕ × List ℕ)) → text_from text place (us ++ vs) ≡ text_from text place us ++ text_from text (place + length us) vs
  text_from-append place [] vs = let same : place ≡ place + 0 = omega arith in ap (λ n. text_from text n vs) same
  text_from-append place (u ∷ us) vs =
      let on : place + 1 + length us ≡ place + length (u ∷ us) = omega arith in
      ap (λ l. text place u.0 u.1 ++ l) (text_from-append (place + 1) us vs ∙ ap (λ n. text_from text (place + 1) us ++ text_from text n vs) on)
      ∙ sym (append_assoc (text place u.0 u.1) (text_from text (place + 1) us) (text_from text (place + length (u ∷ us)) vs))

  -- that of a history that goes on
  text_on : (place : ℕ) (was now more : List Entry) → now ≡ was ++ more → text_from text place (map update_of now) ≡ text_from text place (map update_of was) ++ text_from text (place + length was) (map update_of (drop (length was) now))
  text_on place was now more on =
      let rest : drop (length was) now ≡ more = ap (drop (length was)) on ∙ drop-append_seam was more in
      let long : length (map update_of was) ≡ length was = length-map was update_of in
      ap (λ (l : List Entry). text_from text place (map update_of l)) on
      ∙ (ap (text_from text place) (map-append update_of was more)
      ∙ (text_from-append place (map update_of was) (map update_of more)
      ∙ (λ i. text_from text place (map update_of was) ++ text_from text (place + long i) (map update_of (sym rest i)))))

-- nothing was to be handed on
pub ships_none : (x : Shipped) → x.failing ≡ false → Ships x x []
ships_none x works = record {
  many = 0;
  front = Appends-nil x.taken;
  whole = λ _. Appends-nil x.taken;
  ended = λ _. refl;
  cause = inl (refl, refl);
}

-- The text that was to be handed on first was not taken whole: then no more is, and what was taken of it begins both.
front_kept : (a b : List ℕ) (many : ℕ) → take (min many (length a)) (a ++ b) ≡ take many a
front_kept a b many = take-append-le (min many (length a)) a b (min-le_right many (length a)) ∙ take_min many a

module _ (was mid now : Shipped) (a b : List ℕ) (first : Ships was mid a) (second : Ships mid now b) where
  ships_ended : mid.failing ≡ true → Ships was now (a ++ b)
  ships_ended failed =
      let same : now ≡ mid = second.ended failed in
      record {
        many = min first.many (length a);
        front = subst (λ l. Appends was.taken now.taken l) (sym (front_kept a b first.many)) (subst (λ (z : Shipped). Appends was.taken z.taken (take first.many a)) (sym same) first.front);
        whole = λ works. absurd (let no : now.failing ≡ true = ap (λ (z : Shipped). z.failing) same ∙ failed in cc);
        ended = λ before. same ∙ first.ended before;
        cause = subst (λ (z : Shipped). ((z.failing ≡ was.failing) × (z.faults ≡ was.faults)) ⊎ ((was.failing ≡ false) × (z.failing ≡ true) × (z.faults ≡ counted was.faults))) (sym same) first.cause;
      }

  ships_whole : mid.failing ≡ false → Ships was now (a ++ b)
  ships_whole works = by first.cause
    where
      taken : Appends was.taken mid.taken a
      taken = first.whole works

      by : ((mid.failing ≡ was.failing) × (mid.faults ≡ was.faults)) ⊎ ((was.failing ≡ false) × (mid.failing ≡ true) × (mid.faults ≡ counted was.faults)) → Ships was now (a ++ b)
      by (inr failed) = absurd (cc (works, failed.1))
      by (inl same) = record {
        many = length a + second.many;
        front = subst (λ l. Appends was.taken now.taken l) (sym (take-append-add a b second.many)) (Appends-trans was.taken mid.taken now.taken a (take second.many b) taken second.front);
        whole = λ still. Appends-trans was.taken mid.taken now.taken a b taken (second.whole still);
        ended = λ before. absurd (let no : mid.failing ≡ true = same.0 ∙ before in cc);
        cause = subst (λ (z : Bool × ℕ). ((now.failing ≡ z.0) × (now.faults ≡ z.1)) ⊎ ((z.0 ≡ false) × (now.failing ≡ true) × (now.faults ≡ counted z.1))) (λ i. (same.0 i, same.1 i)) second.cause;
      }

  -- What is handed on in two pieces is handed on as one.
  pub ships_append : Ships was now (a ++ b)
  ships_append = by mid.failing refl
    where
      by : (failing : Bool) → mid.failing ≡ failing → Ships was now (a ++ b)
      by true failed = ships_ended failed
      by false works = ships_whole works

-- A history that was handed on goes on, and what it has more is handed on too.
pub ships_on : (text : ℕ → List ℕ → List ℕ → List ℕ) (place : ℕ) (was now more : List Entry) (began old new : Shipped) → now ≡ was ++ more → Ships began old (text_from text place (map update_of was)) → Ships old new (text_from text (place + length was) (map update_of (drop (length was) now))) → Ships began new (text_from text place (map update_of now))
ships_on text place was now more began old new on before after =
    subst (Ships began new) (sym (text_on text place was now more on)) (ships_append began old new _ _ before after)
