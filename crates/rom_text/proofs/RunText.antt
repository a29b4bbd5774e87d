-- The text of a run, piece by piece.
use Rattle.std.specs.Prelude.{◌≡◌, ◌⊎◌, ℕ, ◌+◌, ◌<◌, ◌≤◌, List, [], ◌∷◌, ◌++◌, codes, decimal, length, take, drop, map, min, slice_get, Option, Some, None, IfSome}
use Rattle.std.proofs.Common.{inl, inr, suc, refl, sym, ap, ◌∙◌, arith, append_assoc, append-nil, get_or, subst, take-append-drop}
use Rattle.std.proofs.lemmas.List.{drop_more, flat_map_more, length-map, length-take, map-append, take_more}
use Rattle.std.proofs.lemmas.Option.{slice_get_cases}
use Rattle.std.specs.List.{AllByRecursion, flat_map}
use Rattle.rom_model.specs.declared.line.LineResult.{LineResult}
use Rattle.rom_lines.proofs.Runs.{all_and_one, at_before}
use Rattle.rom_text.specs.Text.{Texts, AreOfType, ResultFits, callers_text, line_text, results_text}

-- the end of the text
abbrev pub counted : ℕ → List ℕ
counted n = line_text (codes "count " ++ decimal n)

-- the line of a caller's number
abbrev pub numbered : ℕ → List ℕ
numbered caller = line_text (codes "caller " ++ decimal caller)

module _ {R A : Type 0} (texts : Texts R A) where
  -- a caller's number, and its results
  abbrev pub caller_text : ℕ → List (LineResult R A) → List ℕ
  caller_text caller results = numbered caller ++ results_text texts results

  -- the text of some callers, and then of the others
  of_both : (caller : ℕ) (xs ys : List (List (LineResult R A))) → callers_text texts caller (xs ++ ys) ≡ callers_text texts caller xs ++ callers_text texts (caller + length xs) ys
  of_both caller [] ys = ap (λ n. callers_text texts n ys) (let same : caller ≡ caller + 0 = omega arith in same)
  of_both caller (x ∷ xs) ys =
      let same : (caller + 1) + length xs ≡ caller + suc (length xs) = omega arith in
      ap (λ more. caller_text caller x ++ more) (of_both (caller + 1) xs ys ∙ ap (λ n. callers_text texts (caller + 1) xs ++ callers_text texts n ys) same)
      ∙ sym (append_assoc (caller_text caller x) (callers_text texts (caller + 1) xs) (callers_text texts (caller + suc (length xs)) ys))

  -- Of callers whose results are read off such values, of which the one at the index i is d where there is none:
  module _ {V : Type 0} (f : V → List (LineResult R A)) (xs : List V) (i : ℕ) (d : V) (lt : i < length xs) where
    first_length : length (map f (take i xs)) ≡ i
    first_length = length-map (take i xs) f ∙ length-take i xs ∙ (let least : min i (length xs) ≡ i = omega (arith, lt) in least)

    split : (ys : List V) → callers_text texts 1 (map f (take i xs ++ ys)) ≡ callers_text texts 1 (map f (take i xs)) ++ callers_text texts (i + 1) (map f ys)
    split ys =
        let next : 1 + length (map f (take i xs)) ≡ i + 1 = omega (arith, first_length) in
        ap (callers_text texts 1) (map-append f (take i xs) ys) ∙ of_both 1 (map f (take i xs)) (map f ys)
        ∙ ap (λ n. callers_text texts 1 (map f (take i xs)) ++ callers_text texts n (map f ys)) next

    -- one caller more
    pub one_caller_more : callers_text texts 1 (map f (take i xs)) ++ caller_text (i + 1) (f (get_or xs i d)) ≡ callers_text texts 1 (map f (take (i + 1) xs))
    one_caller_more =
        ap (λ own. callers_text texts 1 (map f (take i xs)) ++ own) (sym (append-nil (caller_text (i + 1) (f (get_or xs i d)))))
        ∙ sym (split (get_or xs i d ∷ [])) ∙ ap (λ ys. callers_text texts 1 (map f ys)) (sym (take_more xs i d lt))

    -- the callers before it, the caller, and those behind
    pub callers_around : callers_text texts 1 (map f (take i xs)) ++ (caller_text (i + 1) (f (get_or xs i d)) ++ callers_text texts (i + 1 + 1) (map f (drop (i + 1) xs))) ≡ callers_text texts 1 (map f xs)
    callers_around =
        sym (split (get_or xs i d ∷ drop (i + 1) xs))
        ∙ ap (λ ys. callers_text texts 1 (map f (take i xs ++ ys))) (sym (drop_more xs i d lt))
        ∙ ap (λ ys. callers_text texts 1 (map f ys)) (take-append-drop i xs)

    -- the numbers of one caller more are of their types
    pub one_of_type_more : AreOfType texts (map f (take i xs)) → AllByRecursion (ResultFits texts) (f (get_or xs i d)) → AreOfType texts (map f (take (i + 1) xs))
    one_of_type_more all own =
        subst (λ ys. AreOfType texts ys) (sym (map-append f (take i xs) (get_or xs i d ∷ [])) ∙ ap (map f) (sym (take_more xs i d lt))) (all_and_one (λ rs. AllByRecursion (ResultFits texts) rs) (map f (take i xs)) (f (get_or xs i d)) all own)

-- what is told, and behind it a mark and digits up to the line's end
pub placed : (told mark digits : List ℕ) → told ++ line_text (mark ++ digits) ≡ line_text (told ++ mark ++ digits)
placed told mark digits = simp (append_assoc) refl

-- what follows for each value follows for one that may be there
pub for_some : {X : Type 0} (P R : X → Type 0) → ((x : X) → P x → R x) → (o : Option X) → IfSome o P → IfSome o R
for_some P R all (Some x) h = all x h
for_some P R all None h = tt

-- what is so of the element of a list at an index
pub of_some : {X : Type 0} (P : X → Type 0) (o : Option X) (x : X) → o ≡ Some x → P x → IfSome o P
of_some P o x is h = subst (λ e. IfSome e P) (sym is) h

pub by_some : {X : Type 0} (P : X → Type 0) (o : Option X) (x : X) → o ≡ Some x → IfSome o P → P x
by_some P o x is h = subst (λ e. IfSome e P) is h

-- an index within a list has an element
pub found_at : {X : Type 0} (xs : List X) (i : ℕ) → i < length xs → (x : X) × (slice_get xs i ≡ Some x)
found_at xs i lt = inside (slice_get_cases xs i).1
  where
    inside : (((x : _) × (i < length xs) × (slice_get xs i ≡ Some x) × (get_or xs i x ≡ x)) ⊎ ((length xs ≤ i) × (slice_get xs i ≡ None))) → (x : _) × (slice_get xs i ≡ Some x)
    inside (inl h) = (h.0, h.2)
    inside (inr h) = absurd (omega (arith, lt, h.0))

-- Of a list with this element at the index i:
module _ {X : Type 0} (xs : List X) (i : ℕ) (x : X) (at : slice_get xs i ≡ Some x) where
  -- the text of the elements before it, and its own
  pub text_more : (f : X → List ℕ) → flat_map f (take i xs) ++ f x ≡ flat_map f (take (i + 1) xs)
  text_more f = flat_map_more f [] (take i xs) x ∙ ap (flat_map f) (sym (at_before xs i x at))

  -- what holds of the elements before it, and of it
  pub all_more : (P : X → Type 0) → AllByRecursion P (take i xs) → P x → AllByRecursion P (take (i + 1) xs)
  all_more P all own = subst (AllByRecursion P) (sym (at_before xs i x at)) (all_and_one P (take i xs) x all own)

-- a text, and then a space, a mark and digits, which are printed as pieces
pub marked : (told : List ℕ) (mark : ℕ) (digits : List ℕ) → told ++ (32 ∷ mark ∷ (digits ++ [])) ≡ told ++ 32 ∷ mark ∷ [] ++ digits
marked told mark digits = simp (append_assoc, append-nil) refl
