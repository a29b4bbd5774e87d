-- Queries on a tree in the words, by what they give on its subtrees.
use Rattle.std.proofs.Common.{◌≡◌, ℕ, ◌+◌, ◌<◌, ◌≤◌, List, ◌∷◌, length, refl, sym, ◌∙◌, ap, arith, length-append}
use Rattle.std.specs.Prelude.{slice_index, Option, Some, None}
use Rattle.rom_order_region.specs.declared.tree.find.Near.{Near}
use Rattle.rom_order_region.specs.Tree.{Tree, Leaf, Node, entries, blocks}
use Rattle.rom_order_region.specs.Nodes.{IsTree, HasTree}
use Rattle.rom_order_region.specs.Keys.{EntriesRise}
use Rattle.rom_order_region.specs.Find.{HasOrdered}
use Rattle.rom_order_region.specs.Query.{inside, total}
use Rattle.rom_order_region.specs.Near.{IsNear}
use Rattle.rom_order_region.proofs.Sorted.{parts}
use Rattle.rom_order_region.proofs.Inside.{first_right, first_left, first_here}
use Rattle.rom_order_region.proofs.Detaching.{left_sub, right_sub, read_key}

-- what the least key from one on is found to be
abbrev pub NearBy : ℕ → List ℕ → ℕ → ℕ → Option Near → Type 0
NearBy n w top key near = (t : Tree) → IsTree n w top t → EntriesRise (entries t) → IsNear w t key near

pub near_empty : {n top : ℕ} (w : List ℕ) (key : ℕ) → top ≡ 0 → NearBy n w top key None
near_empty w key none Leaf is rises = refl
near_empty w key none (Node c j u l r) is rises = absurd (omega (arith, none, is.at_is))

module _ {n top there : ℕ} (w : List ℕ) (key : ℕ) (linked : top ≡ 0 → ⊥) (there_is : there ≡ slice_index w top) where
  pub near_right : (right : ℕ) (near : Option Near) → right ≡ slice_index w (top + 3) → there < key → NearBy n w right key near → NearBy n w top key near
  near_right right near right_is lt found Leaf is rises = absurd (linked is.at_is)
  near_right right None right_is lt found (Node c j u l r) is rises =
      let p = parts (entries l) (j, u) (entries r) rises in
      first_right key j u (entries l) (entries r) p.below (omega (arith, lt, there_is, read_key is)) ∙ found r (right_sub is right right_is) p.back
  near_right right (Some near) right_is lt found (Node c j u l r) is rises =
      let p = parts (entries l) (j, u) (entries r) rises in
      first_right key j u (entries l) (entries r) p.below (omega (arith, lt, there_is, read_key is)) ∙ found r (right_sub is right right_is) p.back

  pub near_left : (left : ℕ) (near : Near) → left ≡ slice_index w (top + 2) → NearBy n w left key (Some near) → NearBy n w top key (Some near)
  near_left left near left_is found Leaf is rises = absurd (linked is.at_is)
  near_left left near left_is found (Node c j u l r) is rises =
      let p = parts (entries l) (j, u) (entries r) rises in
      first_left key j u (near.key, slice_index w (near.node + 1)) (entries l) (entries r) (found l (left_sub is left left_is) p.front)

  pub near_here : (left : ℕ) → left ≡ slice_index w (top + 2) → key ≤ there → NearBy n w left key None → NearBy n w top key (Some record { node = top; key = there })
  near_here left left_is le found Leaf is rises = absurd (linked is.at_is)
  near_here left left_is le found (Node c j u l r) is rises =
      let p = parts (entries l) (j, u) (entries r) rises in
      let key_is : j ≡ there = sym (read_key is) ∙ sym there_is in
      let value_is : u ≡ slice_index w (top + 1) = sym (ap (λ a. slice_index w (a + 1)) is.at_is ∙ is.stands.0.value_is) in
      first_here key j u (entries l) (entries r) (found l (left_sub is left left_is) p.front) (omega (arith, le, there_is, read_key is)) ∙ (λ i. Some (key_is i, value_is i))

-- how many keys lie in a range, and the sum of their values
abbrev pub CountBy : ℕ → List ℕ → ℕ → ℕ → ℕ → ℕ → Type 0
CountBy n w top low high count = (t : Tree) → IsTree n w top t → EntriesRise (entries t) → count ≡ length (inside low high (entries t))

abbrev pub SumBy : ℕ → List ℕ → ℕ → ℕ → ℕ → ℕ → Type 0
SumBy n w top low high all = (t : Tree) → IsTree n w top t → EntriesRise (entries t) → all ≡ total (inside low high (entries t))

-- a tree has as many entries as nodes
pub length-entries : (t : Tree) → length (entries t) ≡ length (blocks t)
length-entries Leaf = refl
length-entries (Node b k v l r) = omega (arith, length-append (entries l) ((k, v) ∷ entries r), length-append (blocks l) (blocks r), length-entries l, length-entries r)

pub has_tree : {n top : ℕ} {w : List ℕ} → HasOrdered n w top → HasTree n w top
has_tree h = record { tree = h.tree; is = h.is }
