-- The callers of scripts and results, and one caller's next update.
use Rattle.std.specs.Prelude.{◌≡◌, ℕ, ◌+◌, ◌<◌, List, [], ◌∷◌, length, map, min, set, slice_get, take, Some, option_map}
use Rattle.std.proofs.Common.{zero, suc, refl, sym, ap, ◌∙◌, arith, get_or, subst}
use Rattle.std.proofs.lemmas.List.{map-set}
use Rattle.std.proofs.lemmas.Option.{slice_get-get_or, slice_get-map}
use Rattle.rom_model.specs.declared.call.Answer.{Answer}
use Rattle.rom_model.specs.declared.call.Call.{Call}
use Rattle.rom_model.specs.declared.call.Query.{Query}
use Rattle.rom_model.specs.declared.call.Reply.{Reply}
use Rattle.rom_model.specs.declared.line.LineResult.{LineResult}
use Rattle.rom_model.specs.declared.line.Step.{Step}
use Rattle.rom_frame.specs.declared.frame.Frame.{Frame}
use Rattle.rom_replica.specs.Merging.{all_updates, updates, first_update, least, next_update, next_by}

-- of callers that have such updates
module _ {X : Type 0} (q : X → List Frame) (xs : List X) (i place : ℕ) (d : X) (at : least (map q xs) ≡ Some (i, place)) (within : i < length xs) where
  here : slice_get (map q xs) i ≡ Some (q (get_or xs i d))
  here = slice_get-map q xs i ∙ ap (option_map q) (slice_get-get_or xs i d within)

  pub takes : (f : Frame) (y : X) → q (get_or xs i d) ≡ f ∷ q y → Some (f, map q (set xs i y)) ≡ next_update (map q xs)
  takes f y first = sym (ap (next_by (map q xs)) at ∙ ap (first_update (map q xs) i) (here ∙ ap (λ (l : List Frame). Some l) first) ∙ ap (λ (l : List (List Frame)). Some (f, l)) (sym (map-set q xs i y)))

-- of callers that have the updates of scripts and results, which are read off such values
module _ {X V W : Type 0} (q : X → List Frame) (f : V → List (Step Call Query)) (h : W → List (LineResult Reply Answer)) where
  more : (i : ℕ) (cs : List X) (vs : List V) (ws : List W) (y : X) (v : V) (w : W) → i < length cs → i < length vs → i < length ws → map q (take i cs) ≡ all_updates (map f (take i vs)) (map h (take i ws)) →
      q y ≡ updates (f (get_or vs i v)) (h (get_or ws i w)) → map q (take (suc i) (set cs i y)) ≡ all_updates (map f (take (suc i) vs)) (map h (take (suc i) ws))
  more i [] vs ws y v w in_cs in_vs in_ws before own = absurd (omega (arith, in_cs))
  more i cs [] ws y v w in_cs in_vs in_ws before own = absurd (omega (arith, in_vs))
  more i cs vs [] y v w in_cs in_vs in_ws before own = absurd (omega (arith, in_ws))
  more zero (c ∷ cs) (a ∷ vs) (b ∷ ws) y v w in_cs in_vs in_ws before own = ap (λ l. l ∷ []) own
  more (suc i) (c ∷ cs) (a ∷ vs) (b ∷ ws) y v w in_cs in_vs in_ws before own =
      let first : q c ≡ updates (f a) (h b) = cc in
      let others : map q (take i cs) ≡ all_updates (map f (take i vs)) (map h (take i ws)) = cc in
      let rest = more i cs vs ws y v w (omega (arith, in_cs)) (omega (arith, in_vs)) (omega (arith, in_ws)) others own in
      λ j. first j ∷ rest j

  -- one caller more
  pub one_more : (i : ℕ) (cs : List X) (vs : List V) (ws : List W) (y : X) (v : V) (w : W) → i < length cs → i < length vs → i < length ws → map q (take i cs) ≡ all_updates (map f (take i vs)) (map h (take i ws)) →
      q y ≡ updates (f (get_or vs i v)) (h (get_or ws i w)) → map q (take (i + 1) (set cs i y)) ≡ all_updates (map f (take (i + 1) vs)) (map h (take (i + 1) ws))
  one_more i cs vs ws y v w in_cs in_vs in_ws before own =
      subst (λ (n : ℕ). map q (take n (set cs i y)) ≡ all_updates (map f (take n vs)) (map h (take n ws))) (let next : suc i ≡ i + 1 = omega arith in next) (more i cs vs ws y v w in_cs in_vs in_ws before own)

  -- all callers
  pub all_there : (n : ℕ) (vs : List V) (ws : List W) → n ≡ min (length vs) (length ws) → all_updates (map f (take n vs)) (map h (take n ws)) ≡ all_updates (map f vs) (map h ws)
  all_there zero [] ws is = refl
  all_there (suc n) [] ws is = refl
  all_there zero (a ∷ vs) [] is = refl
  all_there (suc n) (a ∷ vs) [] is = refl
  all_there zero (a ∷ vs) (b ∷ ws) is = absurd (omega (arith, is))
  all_there (suc n) (a ∷ vs) (b ∷ ws) is = ap (λ l. updates (f a) (h b) ∷ l) (all_there n vs ws (omega (arith, is)))
