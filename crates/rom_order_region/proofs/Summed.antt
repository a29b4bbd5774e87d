-- A range of a tree in the words, added up by what is added of its subtrees.
use Rattle.std.proofs.Common.{◌≡◌, ℕ, ◌+◌, ◌*◌, ◌<◌, ◌≤◌, List, [], ◌∷◌, ◌++◌, length, sym, ◌∙◌, ap, arith, length-append}
use Rattle.std.specs.Prelude.{slice_index, map, sum}
use Rattle.std.proofs.lemmas.List.{map-append}
use Rattle.std.proofs.lemmas.List.Sums.{sum_by-append}
use Rattle.std.proofs.Math.Nat.{mul-le-mul_left}
use Rattle.rom_model.specs.Blocks.{IsOrder}
use Rattle.rom_order_region.specs.Tree.{Tree, Leaf, Node, entries, blocks}
use Rattle.rom_order_region.specs.Nodes.{IsTree}
use Rattle.rom_order_region.specs.Keys.{EntriesRise}
use Rattle.rom_order_region.specs.Find.{HasOrdered}
use Rattle.rom_order_region.specs.Query.{inside, total}
use Rattle.rom_order_region.proofs.Frame.{few_nodes, half_small}
use Rattle.rom_order_region.proofs.Sorted.{parts}
use Rattle.rom_order_region.proofs.Inside.{inside_right, inside_left, inside_both, inside_few}
use Rattle.rom_order_region.proofs.Detaching.{left_sub, right_sub, read_key}
use Rattle.rom_order_region.proofs.Walked.{length-entries}

-- the keys in a range are counted on, and their values added
abbrev pub CountsOn : ℕ → List ℕ → ℕ → ℕ → ℕ → ℕ → ℕ → Type 0
CountsOn n w top low high before after = (t : Tree) → IsTree n w top t → EntriesRise (entries t) → after ≡ before + length (inside low high (entries t))

abbrev pub AddsOn : ℕ → List ℕ → ℕ → ℕ → ℕ → ℕ → ℕ → Type 0
AddsOn n w top low high before after = (t : Tree) → IsTree n w top t → EntriesRise (entries t) → after ≡ before + total (inside low high (entries t))

-- a tree whose keys in the range can be counted on from there
abbrev pub HasRange : ℕ → List ℕ → ℕ → ℕ → ℕ → ℕ → Type 0
HasRange n w top low high count = (t : Tree) × IsTree n w top t × EntriesRise (entries t) × (count + length (inside low high (entries t)) ≤ 32768)

pub has_range : {n top : ℕ} {w : List ℕ} (low high : ℕ) → IsOrder n → HasOrdered n w top → HasRange n w top low high 0
has_range {n} low high order h =
    (h.tree, h.is, h.rises, omega (arith, inside_few low high (entries h.tree), length-entries h.tree, few_nodes (blocks h.tree) h.is.apart, half_small n order))

pub total-append : (xs ys : List (ℕ × ℕ)) → total (xs ++ ys) ≡ total xs + total ys
total-append xs ys = ap (λ zs. sum zs) (map-append (λ (e : ℕ × ℕ). e.1) xs ys) ∙ sum_by-append (λ (x : ℕ). x) (map (λ (e : ℕ × ℕ). e.1) xs) (map (λ (e : ℕ × ℕ). e.1) ys)

total-cons : (j u : ℕ) (ys : List (ℕ × ℕ)) → total ((j, u) ∷ ys) ≡ u + total ys
total-cons j u ys = let one : total ((j, u) ∷ []) ≡ u = omega arith in omega (arith, total-append ((j, u) ∷ []) ys, one)

module _ {n top there : ℕ} (w : List ℕ) (low high : ℕ) (linked : top ≡ 0 → ⊥) (there_is : there ≡ slice_index w top) where
  module _ (right : ℕ) (right_is : right ≡ slice_index w (top + 3)) (lt : there < low) where
    right_same : {c j u : ℕ} {l r : Tree} → IsTree n w top (Node c j u l r) → EntriesRise (entries (Node c j u l r)) → inside low high (entries (Node c j u l r)) ≡ inside low high (entries r)
    right_same {c} {j} {u} {l} {r} is rises = inside_right low high j u (entries l) (entries r) (parts (entries l) (j, u) (entries r) rises).below (omega (arith, lt, there_is, read_key is))

    pub count_right : (before after : ℕ) → CountsOn n w right low high before after → CountsOn n w top low high before after
    count_right before after found Leaf is rises = absurd (linked is.at_is)
    count_right before after found (Node c j u l r) is rises = found r (right_sub is right right_is) (parts (entries l) (j, u) (entries r) rises).back ∙ ap (λ es. before + length es) (sym (right_same is rises))

    pub sum_right : (before after : ℕ) → AddsOn n w right low high before after → AddsOn n w top low high before after
    sum_right before after found Leaf is rises = absurd (linked is.at_is)
    sum_right before after found (Node c j u l r) is rises = found r (right_sub is right right_is) (parts (entries l) (j, u) (entries r) rises).back ∙ ap (λ es. before + total es) (sym (right_same is rises))

    pub range_right : (count : ℕ) → HasRange n w top low high count → HasRange n w right low high count
    range_right count h = go h.0 h.1 h.2 h.3
      where
        go : (t : Tree) → IsTree n w top t → EntriesRise (entries t) → count + length (inside low high (entries t)) ≤ 32768 → HasRange n w right low high count
        go Leaf is rises few = absurd (linked is.at_is)
        go (Node c j u l r) is rises few = (r, right_sub is right right_is, (parts (entries l) (j, u) (entries r) rises).back, omega (arith, few, ap (λ es. length es) (right_same is rises)))

  module _ (left : ℕ) (left_is : left ≡ slice_index w (top + 2)) (lt : high < there) where
    left_same : {c j u : ℕ} {l r : Tree} → IsTree n w top (Node c j u l r) → EntriesRise (entries (Node c j u l r)) → inside low high (entries (Node c j u l r)) ≡ inside low high (entries l)
    left_same {c} {j} {u} {l} {r} is rises = inside_left low high j u (entries l) (entries r) (parts (entries l) (j, u) (entries r) rises).above (omega (arith, lt, there_is, read_key is))

    pub count_left : (before after : ℕ) → CountsOn n w left low high before after → CountsOn n w top low high before after
    count_left before after found Leaf is rises = absurd (linked is.at_is)
    count_left before after found (Node c j u l r) is rises = found l (left_sub is left left_is) (parts (entries l) (j, u) (entries r) rises).front ∙ ap (λ es. before + length es) (sym (left_same is rises))

    pub sum_left : (before after : ℕ) → AddsOn n w left low high before after → AddsOn n w top low high before after
    sum_left before after found Leaf is rises = absurd (linked is.at_is)
    sum_left before after found (Node c j u l r) is rises = found l (left_sub is left left_is) (parts (entries l) (j, u) (entries r) rises).front ∙ ap (λ es. before + total es) (sym (left_same is rises))

    pub range_left : (count : ℕ) → HasRange n w top low high count → HasRange n w left low high count
    range_left count h = go h.0 h.1 h.2 h.3
      where
        go : (t : Tree) → IsTree n w top t → EntriesRise (entries t) → count + length (inside low high (entries t)) ≤ 32768 → HasRange n w left low high count
        go Leaf is rises few = absurd (linked is.at_is)
        go (Node c j u l r) is rises few = (l, left_sub is left left_is, (parts (entries l) (j, u) (entries r) rises).front, omega (arith, few, ap (λ es. length es) (left_same is rises)))

  -- a key that is in the range: after it the left subtree, and then the right one
  module _ (left right : ℕ) (left_is : left ≡ slice_index w (top + 2)) (right_is : right ≡ slice_index w (top + 3)) (le : low ≤ there) (ge : there ≤ high) where
    both_same : {c j u : ℕ} {l r : Tree} → IsTree n w top (Node c j u l r) → inside low high (entries (Node c j u l r)) ≡ inside low high (entries l) ++ (j, u) ∷ inside low high (entries r)
    both_same {c} {j} {u} {l} {r} is = inside_both low high j u (entries l) (entries r) (omega (arith, le, there_is, read_key is)) (omega (arith, ge, there_is, read_key is))

    both_many : {c j u : ℕ} {l r : Tree} → IsTree n w top (Node c j u l r) → length (inside low high (entries (Node c j u l r))) ≡ length (inside low high (entries l)) + length (inside low high (entries r)) + 1
    both_many {c} {j} {u} {l} {r} is = omega (arith, ap (λ es. length es) (both_same is), length-append (inside low high (entries l)) ((j, u) ∷ inside low high (entries r)))

    pub count_both : (before middle after : ℕ) → CountsOn n w left low high (before + 1) middle → CountsOn n w right low high middle after → CountsOn n w top low high before after
    count_both before middle after one two Leaf is rises = absurd (linked is.at_is)
    count_both before middle after one two (Node c j u l r) is rises =
        let p = parts (entries l) (j, u) (entries r) rises in
        omega (arith, one l (left_sub is left left_is) p.front, two r (right_sub is right right_is) p.back, both_many is)

    pub sum_both : (value before middle after : ℕ) → value ≡ slice_index w (top + 1) → AddsOn n w left low high (before + value) middle → AddsOn n w right low high middle after → AddsOn n w top low high before after
    sum_both value before middle after value_is one two Leaf is rises = absurd (linked is.at_is)
    sum_both value before middle after value_is one two (Node c j u l r) is rises =
        let p = parts (entries l) (j, u) (entries r) rises in
        let u_is : value ≡ u = value_is ∙ ap (λ a. slice_index w (a + 1)) is.at_is ∙ is.stands.0.value_is in
        omega (arith, one l (left_sub is left left_is) p.front, two r (right_sub is right right_is) p.back, ap (λ es. total es) (both_same is), total-append (inside low high (entries l)) ((j, u) ∷ inside low high (entries r)), total-cons j u (inside low high (entries r)), u_is)

    pub range_front : (count : ℕ) → HasRange n w top low high count → HasRange n w left low high (count + 1)
    range_front count h = go h.0 h.1 h.2 h.3
      where
        go : (t : Tree) → IsTree n w top t → EntriesRise (entries t) → count + length (inside low high (entries t)) ≤ 32768 → HasRange n w left low high (count + 1)
        go Leaf is rises few = absurd (linked is.at_is)
        go (Node c j u l r) is rises few = (l, left_sub is left left_is, (parts (entries l) (j, u) (entries r) rises).front, omega (arith, few, both_many is))

    pub range_back : (count middle : ℕ) → CountsOn n w left low high (count + 1) middle → HasRange n w top low high count → HasRange n w right low high middle
    range_back count middle one h = go h.0 h.1 h.2 h.3
      where
        go : (t : Tree) → IsTree n w top t → EntriesRise (entries t) → count + length (inside low high (entries t)) ≤ 32768 → HasRange n w right low high middle
        go Leaf is rises few = absurd (linked is.at_is)
        go (Node c j u l r) is rises few =
            let p = parts (entries l) (j, u) (entries r) rises in
            (r, right_sub is right right_is, p.back, omega (arith, few, both_many is, one l (left_sub is left left_is) p.front))

-- the loads of a sum
pub loads_one : (c x h : ℕ) → x + 1 ≤ h → 2 + (c + 1) * (2 * x) ≤ (c + 1) * (2 * h)
loads_one c x h le =
    let more : 2 * x + 2 ≤ 2 * h = omega arith in
    omega (arith, mul-le-mul_left (c + 1) more)

pub loads_both : (b c k x y h : ℕ) → k ≡ b + c + 1 → x + 1 ≤ h → y + 1 ≤ h → 4 + (b + 1) * (2 * x) + (c + 1) * (2 * y) ≤ (k + 1) * (2 * h)
loads_both b c k x y h many le ge =
    let one : 2 * x + 2 ≤ 2 * h = omega arith in
    let two : 2 * y + 2 ≤ 2 * h = omega arith in
    omega (arith, mul-le-mul_left (b + 1) one, mul-le-mul_left (c + 1) two, ap (λ m. (m + 1) * (2 * h)) many)
