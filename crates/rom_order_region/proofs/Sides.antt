-- A node seen from one of its sides.
use Rattle.std.proofs.Common.{◌≡◌, ℕ, ◌+◌, ◌<◌, ◌≤◌, List, [], ◌∷◌, refl, arith}
use Rattle.rom_model.specs.Chains.{times}
use Rattle.rom_order_region.specs.declared.tree.turn.Side.{Side}
use Rattle.rom_order_region.specs.declared.tree.turn.Side.TheVariants.{Left, Right}
use Rattle.rom_order_region.specs.Tree.{Tree, Leaf, Node, blocks, height, from_left_middle, from_right_middle}
use Rattle.rom_order_region.specs.Nodes.{node_at, root, HoldsEntry, TreeStands, IsTree, IsFork, HasFork}
use Rattle.rom_order_region.specs.Sides.{over, turned, IsForkOn, HasForkOn}
use Rattle.rom_order_region.proofs.Choice.{of_below}
use Rattle.rom_order_region.proofs.Members.{count, count-node}
use Rattle.rom_order_region.proofs.Frame.{apart_part}

pub root_over : (n : ℕ) (side : Side) (b k v : ℕ) (x y : Tree) → root n (over side b k v x y) ≡ node_at n b
root_over n Left b k v x y = refl
root_over n Right b k v x y = refl

pub count_over : (side : Side) (q b k v : ℕ) (x y : Tree) → count q (over side b k v x y) ≡ times q (b ∷ []) + (count q x + count q y)
count_over Left q b k v x y = count-node q b k v x y
count_over Right q b k v x y = omega (arith, count-node q b k v y x)

-- the parts of a node that stands
pub record StandsOver (n : ℕ) (w : List ℕ) (b k v : ℕ) (x y : Tree) : Type 0 where
  pub holds : HoldsEntry n w b k v
  pub near : TreeStands n w x
  pub far : TreeStands n w y

pub stands_over : {n : ℕ} {w : List ℕ} (side : Side) (b k v : ℕ) (x y : Tree) → TreeStands n w (over side b k v x y) → StandsOver n w b k v x y
stands_over Left b k v x y stands = record { holds = stands.0; near = stands.2; far = stands.3 }
stands_over Right b k v x y stands = record { holds = stands.0; near = stands.3; far = stands.2 }

-- a tree that is not empty is such a node
pub record IsOver (side : Side) (t : Tree) : Type 0 where
  pub block : ℕ
  pub key : ℕ
  pub value : ℕ
  pub near : Tree
  pub far : Tree
  pub is : t ≡ over side block key value near far

pub as_over : (n : ℕ) (side : Side) (t : Tree) → (root n t ≡ 0 → ⊥) → IsOver side t
as_over n side Leaf some = absurd (some refl)
as_over n Left (Node b k v l r) some = record { block = b; key = k; value = v; near = l; far = r; is = refl }
as_over n Right (Node b k v l r) some = record { block = b; key = k; value = v; near = r; far = l; is = refl }

-- a fork from its left and from its right side, and back
module _ {n : ℕ} {w : List ℕ} {top left right b k v : ℕ} {l r : Tree} where
  pub from_the_left : IsFork n w top left right b k v l r → IsForkOn n w Left top left right b k v l r
  from_the_left f = record { top_is = f.top_is; near_is = f.left_is; far_is = f.right_is; holds = f.holds; stands_near = f.stands_left; stands_far = f.stands_right; apart = f.apart }

  pub from_the_right : IsFork n w top left right b k v l r → IsForkOn n w Right top right left b k v r l
  from_the_right f = record { top_is = f.top_is; near_is = f.right_is; far_is = f.left_is; holds = f.holds; stands_near = f.stands_right; stands_far = f.stands_left; apart = f.apart }

  pub on_the_left : IsForkOn n w Left top left right b k v l r → IsFork n w top left right b k v l r
  on_the_left f = record { top_is = f.top_is; left_is = f.near_is; right_is = f.far_is; holds = f.holds; stands_left = f.stands_near; stands_right = f.stands_far; apart = f.apart }

  pub on_the_right : IsForkOn n w Right top right left b k v r l → IsFork n w top left right b k v l r
  on_the_right f = record { top_is = f.top_is; left_is = f.far_is; right_is = f.near_is; holds = f.holds; stands_left = f.stands_far; stands_right = f.stands_near; apart = f.apart }

module _ {n : ℕ} {w : List ℕ} {top left right : ℕ} where
  pub has_from_left : HasFork n w top left right → HasForkOn n w Left top left right
  has_from_left f = record { block = f.block; key = f.key; value = f.value; on_near = f.on_left; on_far = f.on_right; is = from_the_left f.is }

  pub has_from_right : HasFork n w top left right → HasForkOn n w Right top right left
  has_from_right f = record { block = f.block; key = f.key; value = f.value; on_near = f.on_right; on_far = f.on_left; is = from_the_right f.is }

  pub has_on_left : HasForkOn n w Left top left right → HasFork n w top left right
  has_on_left f = record { block = f.block; key = f.key; value = f.value; on_left = f.on_near; on_right = f.on_far; is = on_the_left f.is }

  pub has_on_right : HasForkOn n w Right top right left → HasFork n w top left right
  has_on_right f = record { block = f.block; key = f.key; value = f.value; on_left = f.on_far; on_right = f.on_near; is = on_the_right f.is }

pub near_tree : {n : ℕ} {w : List ℕ} {side : Side} {top near far b k v : ℕ} {x y : Tree} → IsForkOn n w side top near far b k v x y → IsTree n w near x
near_tree {side = side} {b = b} {k = k} {v = v} {x = x} {y = y} f = record { at_is = f.near_is; stands = f.stands_near; apart = apart_part (blocks (over side b k v x y)) (blocks x) (λ q. omega (arith, count_over side q b k v x y)) f.apart }

-- what turning makes of the node over such a subtree
module _ (b k v c j u : ℕ) (x : Tree) where
  pub turned_once : (side : Side) (m r : Tree) → height m ≤ height x → turned side b k v (over side c j u x m) r ≡ over side c j u x (over side b k v m r)
  turned_once Left m r low = of_below (λ t. t ≡ Node c j u x (Node b k v m r)) (height x) (height m) (from_left_middle b k v c j u x m r) (Node c j u x (Node b k v m r)) (λ deep. absurd (omega (arith, deep, low))) (λ _. refl)
  turned_once Right m r low = of_below (λ t. t ≡ Node c j u (Node b k v r m) x) (height x) (height m) (from_right_middle b k v r c j u m x) (Node c j u (Node b k v r m) x) (λ deep. absurd (omega (arith, deep, low))) (λ _. refl)

  pub turned_twice : (side : Side) (d i t : ℕ) (y z r : Tree) → height x < height (over side d i t y z) → turned side b k v (over side c j u x (over side d i t y z)) r ≡ over side d i t (over side c j u x y) (over side b k v z r)
  turned_twice Left d i t y z r deep =
      let made = Node d i t (Node c j u x y) (Node b k v z r) in
      of_below (λ s. s ≡ made) (height x) (height (Node d i t y z)) made (Node c j u x (Node b k v (Node d i t y z) r)) (λ _. refl) (λ low. absurd (omega (arith, deep, low)))
  turned_twice Right d i t y z r deep =
      let made = Node d i t (Node b k v r z) (Node c j u y x) in
      of_below (λ s. s ≡ made) (height x) (height (Node d i t z y)) made (Node c j u (Node b k v r (Node d i t z y)) x) (λ _. refl) (λ low. absurd (omega (arith, deep, low)))
