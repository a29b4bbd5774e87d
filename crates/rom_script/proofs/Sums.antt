-- Sums over the lines of callers and their results.
use Rattle.std.specs.Prelude.{◌≡◌, ℕ, ◌+◌, ◌<◌, List, length, take, map, min}
use Rattle.std.proofs.Common.{sym, ap, ◌∙◌, arith, get_or}
use Rattle.std.proofs.lemmas.List.{get_or-map, length-map, take_all}
use Rattle.std.proofs.lemmas.List.Sums.{sum_by_more}
use Rattle.std.proofs.lemmas.Slice.Zip.{length-zip, get_or-zip}
use Rattle.std.specs.List.{sum_by, zip}

-- one more pair is summed
pub pair_more : {X Y : Type 0} (f : X × Y → ℕ) (xs : List X) (ys : List Y) (i : ℕ) (x : X) (y : Y) → i < length xs → i < length ys → x ≡ get_or xs i x → y ≡ get_or ys i y →
    sum_by f (take (i + 1) (zip xs ys)) ≡ sum_by f (take i (zip xs ys)) + f (x, y)
pair_more f xs ys i x y in_xs in_ys x_is y_is =
    let within : i < length (zip xs ys) = omega (arith, length-zip xs ys) in
    sum_by_more f (zip xs ys) i (x, y) within
    ∙ ap (λ p. sum_by f (take i (zip xs ys)) + f p) (get_or-zip xs ys i (x, y) in_xs in_ys ∙ (λ j. (sym x_is j, sym y_is j)))

-- all pairs are summed
pub pairs_all : {X Y : Type 0} (f : X × Y → ℕ) (xs : List X) (ys : List Y) (n : ℕ) → n ≡ min (length xs) (length ys) → sum_by f (take n (zip xs ys)) ≡ sum_by f (zip xs ys)
pairs_all f xs ys n all = ap (sum_by f) (take_all n (zip xs ys) (omega (arith, length-zip xs ys, all)))

module _ {V W X Y : Type 0} (g : V → X) (h : W → Y) (vs : List V) (ws : List W) where
  -- the same of pairs of what values are mapped to
  pub mapped_pair_more : (f : X × Y → ℕ) (i : ℕ) (v : V) (w : W) → i < length vs → i < length ws → v ≡ get_or vs i v → w ≡ get_or ws i w →
      sum_by f (take (i + 1) (zip (map g vs) (map h ws))) ≡ sum_by f (take i (zip (map g vs) (map h ws))) + f (g v, h w)
  mapped_pair_more f i v w in_vs in_ws v_is w_is =
      pair_more f (map g vs) (map h ws) i (g v) (h w) (omega (arith, length-map vs g)) (omega (arith, length-map ws h)) (ap g v_is ∙ sym (get_or-map g vs i v (g v) in_vs)) (ap h w_is ∙ sym (get_or-map h ws i w (h w) in_ws))

  pub mapped_pairs_all : (f : X × Y → ℕ) (n : ℕ) → n ≡ min (length vs) (length ws) → sum_by f (take n (zip (map g vs) (map h ws))) ≡ sum_by f (zip (map g vs) (map h ws))
  mapped_pairs_all f n all = pairs_all f (map g vs) (map h ws) n (all ∙ (λ i. min (sym (length-map vs g) i) (sym (length-map ws h) i)))

-- one more of what values are mapped to is summed
pub mapped_more : {V X : Type 0} (f : X → ℕ) (g : V → X) (vs : List V) (i : ℕ) (v : V) → i < length vs → v ≡ get_or vs i v → sum_by f (take (i + 1) (map g vs)) ≡ sum_by f (take i (map g vs)) + f (g v)
mapped_more f g vs i v lt is =
    sum_by_more f (map g vs) i (g v) (omega (arith, length-map vs g)) ∙ ap (λ x. sum_by f (take i (map g vs)) + f x) (get_or-map g vs i v (g v) lt ∙ ap g (sym is))
