-- Runs of words, where the words grow at their end, and elements of lists by their index.
use Rattle.std.proofs.Common.{◌≡◌, ℕ, suc, ◌+◌, ◌-◌, ◌<◌, ◌≤◌, List, [], ◌∷◌, ◌++◌, length, take, drop, get_or, refl, ap, ◌∙◌, sym, subst, arith, length-append, length-drop}
use Rattle.std.specs.Prelude.{Option, Some, IsSome, All, map, slice_get, option_map}
use Rattle.std.specs.List.{AllByRecursion}
use Rattle.std.proofs.lemmas.List.{take-append-le, drop-append-le, take_all, take_more, drop_more, length-take, length-map}
use Rattle.std.proofs.lemmas.Option.{slice_get-map, slice_get-get_or, slice_get_within, get_or_from_slice_get}
use Rattle.std.proofs.Math.Seq.{drop-append_seam}
use Rattle.rom_lines.specs.Runs.{run_of, IsRun}

-- a run stays where words come behind
pub run_stays : (words more : List ℕ) (from many : ℕ) → from + many ≤ length words → run_of (words ++ more) from many ≡ run_of words from many
run_stays words more from many h =
    let a : from ≤ length words = omega arith in
    let b : many ≤ length (drop from words) = omega (arith, length-drop from words) in
    ap (take many) (drop-append-le from words more a) ∙ take-append-le many (drop from words) more b

-- what comes behind is the run that begins at the end
pub run_behind : (words more : List ℕ) → run_of (words ++ more) (length words) (length more) ≡ more
run_behind words more = ap (take (length more)) (drop-append_seam words more) ∙ take_all (length more) more (omega arith)

-- as the code cuts it out
pub run_cut : (words : List ℕ) (from many : ℕ) → take (from + many - from) (drop from words) ≡ run_of words from many
run_cut words from many = let e : from + many - from ≡ many = omega arith in ap (λ n. take n (drop from words)) e

pub length_run : (words : List ℕ) (from many : ℕ) → from + many ≤ length words → length (run_of words from many) ≡ many
length_run words from many h =
    let b : many ≤ length (drop from words) = omega (arith, length-drop from words) in
    omega (arith, length-take many (drop from words))

pub is_run_stays : {T : Type 0} (read : List ℕ → Option T) (most : ℕ) (words more : List ℕ) (from many : ℕ) → IsRun read most words from many → IsRun read most (words ++ more) from many
is_run_stays read most words more from many h = record {
  within = omega (arith, h.within, length-append words more);
  few = h.few;
  read_as = subst (λ w. IsSome (read w)) (sym (run_stays words more from many h.within)) h.read_as;
}

pub is_run_behind : {T : Type 0} (read : List ℕ → Option T) (most : ℕ) (words more : List ℕ) → length more ≤ most → IsSome (read more) → IsRun read most (words ++ more) (length words) (length more)
is_run_behind read most words more few some = record {
  within = omega (arith, length-append words more);
  few = few;
  read_as = subst (λ w. IsSome (read w)) (sym (run_behind words more)) some;
}

-- the element at an index, by what comes before it and behind it
pub at_before : {X : Type 0} (xs : List X) (i : ℕ) (x : X) → slice_get xs i ≡ Some x → take (i + 1) xs ≡ take i xs ++ x ∷ []
at_before xs i x h = take_more xs i x (slice_get_within xs i x h) ∙ ap (λ y. take i xs ++ y ∷ []) (get_or_from_slice_get xs i x x h)

pub at_left : {X : Type 0} (xs : List X) (i : ℕ) (x : X) → slice_get xs i ≡ Some x → drop i xs ≡ x ∷ drop (i + 1) xs
at_left xs i x h = drop_more xs i x (slice_get_within xs i x h) ∙ ap (λ y. y ∷ drop (i + 1) xs) (get_or_from_slice_get xs i x x h)

-- what stands at an index of a list, where it stands for the image of what was found there
pub at_image : {X Y : Type 0} (f : X → Y) (xs : List X) (ys : List Y) (i : ℕ) (found x : X) → map f xs ≡ ys → i < length ys → found ≡ get_or xs i found → found ≡ x → slice_get ys i ≡ Some (f x)
at_image f xs ys i found x e lt is was =
    let within : i < length xs = omega (arith, ap length e, simp length-map at (ap length e)) in
    let got : slice_get xs i ≡ Some (get_or xs i found) = slice_get-get_or xs i found within in
    subst (λ l. slice_get l i ≡ Some (f x)) e (slice_get-map f xs i ∙ ap (option_map f) (got ∙ ap Some (sym is ∙ was)))

-- and what is so of each element is so of it
pub at_holds : {X Y : Type 0} (P : X → Type 0) (f : X → Y) (xs : List X) (ys : List Y) (i : ℕ) (found x : X) → All P xs → map f xs ≡ ys → i < length ys → found ≡ get_or xs i found → found ≡ x → P x
at_holds P f xs ys i found x all e lt is was =
    let within : i < length xs = omega (arith, ap length e, simp length-map at (ap length e)) in
    subst P (sym is ∙ was) (all i found within)

-- what is so of each element is so with one more behind them
pub all_and_one : {X : Type 0} (P : X → Type 0) (xs : List X) (x : X) → AllByRecursion P xs → P x → AllByRecursion P (xs ++ x ∷ [])
all_and_one P [] x all is = (is, tt)
all_and_one P (y ∷ xs) x all is = (all.0, all_and_one P xs x all.1 is)

-- functions that agree on each element have the same images
pub same_images : {X Y : Type 0} (f h : X → Y) (xs : List X) → All (λ x. f x ≡ h x) xs → map f xs ≡ map h xs
same_images f h [] all = refl
same_images f h (x ∷ xs) all =
    let one : f x ≡ h x = all 0 x (omega arith) in
    let more : map f xs ≡ map h xs = same_images f h xs (λ k d lt. all (suc k) d (omega arith)) in
    ap (λ y. y ∷ map f xs) one ∙ ap (λ l. h x ∷ l) more
