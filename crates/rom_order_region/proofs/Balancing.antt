-- A node over two trees, which is turned where their heights differ by two.
use Rattle.std.proofs.Common.{◌≡◌, ℕ, ◌+◌, ◌<◌, ◌≤◌, List, [], ◌∷◌, refl, arith}
use Rattle.std.specs.Prelude.{nat_lt, if◌then◌else◌}
use Rattle.rom_order_region.specs.Tree.{Tree, Leaf, Node, blocks, height, from_left, from_right, balanced}
use Rattle.rom_order_region.specs.Nodes.{IsTree, HasTree, IsFork, HasFork, BuildsTree, BuildsTreeAt}
use Rattle.rom_order_region.proofs.Choice.{of_below}
use Rattle.rom_order_region.proofs.Members.{count-node}
use Rattle.rom_order_region.proofs.Frame.{changes_then, changes_none, left_tree, right_tree}

-- what putting a node over two trees leaves
abbrev pub JoinedBy : ℕ → ℕ → ℕ → ℕ → List ℕ → List ℕ → Type 0
JoinedBy n top left right w w' = (b k v : ℕ) (l r : Tree) → IsFork n w top left right b k v l r → BuildsTree n (b ∷ []) w w' (Node b k v l r)

-- the two trees of a fork
module _ {n : ℕ} {w : List ℕ} {top left right : ℕ} (f : HasFork n w top left right) where
  abbrev pub on_left : HasTree n w left
  on_left = record { tree = f.on_left; is = left_tree f.is }

  abbrev pub on_right : HasTree n w right
  on_right = record { tree = f.on_right; is = right_tree f.is }

-- a height that was asked for
abbrev pub HeightOf : ℕ → List ℕ → ℕ → ℕ → Type 0
HeightOf n w at high = (t : Tree) → IsTree n w at t → high ≡ height t

-- a tree that is not empty is linked
pub linked_high : {n at high : ℕ} {w : List ℕ} (t : Tree) → IsTree n w at t → HeightOf n w at high → 0 < high → (at ≡ 0 → ⊥)
linked_high Leaf is of some none = absurd (omega (arith, of Leaf is, some))
linked_high (Node b k v l r) is of some none = absurd (omega (arith, is.at_is, none))

-- what a turn leaves
abbrev pub TurnedBy : ℕ → ℕ → ℕ → ℕ → (ℕ → ℕ → ℕ → Tree → Tree → Tree) → List ℕ → List ℕ → ℕ → Type 0
TurnedBy n top left right turn w w' at = (b k v : ℕ) (l r : Tree) → IsFork n w top left right b k v l r → BuildsTreeAt n (blocks (Node b k v l r)) w w' (turn b k v l r) at

-- a node over two trees, turned where it must be
module _ {n : ℕ} {w w1 : List ℕ} {top left right : ℕ} (at on_left_high on_right_high : ℕ) (left_high : HeightOf n w left on_left_high) (right_high : HeightOf n w right on_right_high) where
  pub balance_left : TurnedBy n top left right from_left w w1 at → on_right_high + 1 < on_left_high → TurnedBy n top left right balanced w w1 at
  balance_left turn high b k v l r f = of_below (λ t. BuildsTreeAt n (blocks (Node b k v l r)) w w1 t at) (height r + 1) (height l) (from_left b k v l r) (if nat_lt (height l + 1) (height r) then from_right b k v l r else Node b k v l r)
      (λ _. turn b k v l r f)
      (λ low. absurd (omega (arith, low, high, left_high l (left_tree f), right_high r (right_tree f))))

  pub balance_right : TurnedBy n top left right from_right w w1 at → on_left_high + 1 < on_right_high → TurnedBy n top left right balanced w w1 at
  balance_right turn high b k v l r f = of_below (λ t. BuildsTreeAt n (blocks (Node b k v l r)) w w1 t at) (height r + 1) (height l) (from_left b k v l r) (if nat_lt (height l + 1) (height r) then from_right b k v l r else Node b k v l r)
      (λ up. absurd (omega (arith, up, high, left_high l (left_tree f), right_high r (right_tree f))))
      (λ _. of_below (λ t. BuildsTreeAt n (blocks (Node b k v l r)) w w1 t at) (height l + 1) (height r) (from_right b k v l r) (Node b k v l r)
      (λ _. turn b k v l r f)
      (λ low. absurd (omega (arith, low, high, left_high l (left_tree f), right_high r (right_tree f)))))

  pub balance_plain : JoinedBy n top left right w w1 → on_left_high ≤ on_right_high + 1 → on_right_high ≤ on_left_high + 1 → TurnedBy n top left right balanced w w1 top
  balance_plain join low_left low_right b k v l r f = of_below (λ t. BuildsTreeAt n (blocks (Node b k v l r)) w w1 t top) (height r + 1) (height l) (from_left b k v l r) (if nat_lt (height l + 1) (height r) then from_right b k v l r else Node b k v l r)
      (λ up. absurd (omega (arith, up, low_left, left_high l (left_tree f), right_high r (right_tree f))))
      (λ _. of_below (λ t. BuildsTreeAt n (blocks (Node b k v l r)) w w1 t top) (height l + 1) (height r) (from_right b k v l r) (Node b k v l r)
      (λ up. absurd (omega (arith, up, low_right, left_high l (left_tree f), right_high r (right_tree f))))
      (λ _.
      let done = join b k v l r f in
      record {
        at_is = f.top_is;
        becomes = record { stands = done.stands; others = changes_then (blocks (Node b k v l r)) (λ q some. omega (arith, count-node q b k v l r, some)) (λ q some. some) done.others (changes_none (blocks (Node b k v l r)) refl) };
      }))
