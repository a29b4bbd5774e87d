-- A node that is put into a tree, step by step.
use Rattle.std.proofs.Common.{◌≡◌, ℕ, ◌+◌, ◌<◌, ◌≤◌, List, [], ◌∷◌, sym, ◌∙◌, ap, subst, arith}
use Rattle.std.specs.Prelude.{slice_index}
use Rattle.rom_model.specs.Chains.{times}
use Rattle.rom_model.proofs.Times.{times_here, times-append}
use Rattle.rom_order_region.specs.Tree.{Tree, Leaf, Node, blocks, balanced, attached}
use Rattle.rom_order_region.specs.Nodes.{root, TreeStands, IsTree, HasTree, IsFork, HasFork, BuildsTreeAt, level_at}
use Rattle.rom_order_region.specs.Attach.{IsAttach, MayAttach}
use Rattle.rom_order_region.proofs.Choice.{of_below}
use Rattle.rom_order_region.proofs.Members.{count, count-node, count-attached}
use Rattle.rom_order_region.proofs.Frame.{stands_apart, entry_apart, apart_part, changes_then, changes_none, level_is}
use Rattle.rom_order_region.proofs.Balancing.{TurnedBy}

-- what putting a node into a tree leaves
abbrev pub AttachedBy : ℕ → ℕ → ℕ → ℕ → List ℕ → List ℕ → ℕ → Type 0
AttachedBy n top node k w w' at = (b v : ℕ) (t : Tree) → IsAttach n w top node b k v t → BuildsTreeAt n (b ∷ blocks t) w w' (attached b k v t) at

pub attach_tree : {n top node b k v : ℕ} {w : List ℕ} {t : Tree} → IsAttach n w top node b k v t → IsTree n w top t
attach_tree {b = b} {t = t} a = record { at_is = a.top_is; stands = a.stands; apart = apart_part (b ∷ blocks t) (blocks t) (λ q. omega (arith, times-append q (b ∷ []) (blocks t))) a.apart }

pub may_tree : {n top node k : ℕ} {w : List ℕ} → MayAttach n w top node k → HasTree n w top
may_tree m = record { tree = m.tree; is = attach_tree m.is }

-- the levels of subtrees are lower
module _ {n top : ℕ} (w : List ℕ) (some : top ≡ 0 → ⊥) where
  pub lower_left : (t : Tree) → IsTree n w top t → level_at w (slice_index w (top + 2)) + 1 ≤ level_at w top
  lower_left Leaf is = absurd (some is.at_is)
  lower_left (Node c j u l r) is =
      let link : slice_index w (top + 2) ≡ root n l = ap (λ a. slice_index w (a + 2)) is.at_is ∙ is.stands.1.left_is in
      omega (arith, level_is n top w (Node c j u l r) is.at_is is.stands, level_is n (slice_index w (top + 2)) w l link is.stands.2)

  pub lower_right : (t : Tree) → IsTree n w top t → level_at w (slice_index w (top + 3)) + 1 ≤ level_at w top
  lower_right Leaf is = absurd (some is.at_is)
  lower_right (Node c j u l r) is =
      let link : slice_index w (top + 3) ≡ root n r = ap (λ a. slice_index w (a + 3)) is.at_is ∙ is.stands.1.right_is in
      omega (arith, level_is n top w (Node c j u l r) is.at_is is.stands, level_is n (slice_index w (top + 3)) w r link is.stands.3)

-- an empty tree
pub attach_empty : {n top node k : ℕ} {w w' : List ℕ} → top ≡ 0 → w' ≡ w → AttachedBy n top node k w w' node
attach_empty {n} {top} {node} {k} {w} {w'} none same b v Leaf a = record {
  at_is = a.node_is;
  becomes = record { stands = subst (λ (x : List ℕ). TreeStands n x (Node b k v Leaf Leaf)) (sym same) a.single; others = changes_none (b ∷ []) same };
}
attach_empty {n} none same b v (Node c j u l r) a = absurd (omega (arith, none, a.top_is))

module _ {n top node b k v c j u : ℕ} {w : List ℕ} {l r : Tree} (a : IsAttach n w top node b k v (Node c j u l r)) where
  abbrev old : List ℕ
  old = b ∷ blocks (Node c j u l r)

  a_sums : (q : ℕ) → times q old ≡ times q (b ∷ []) + (times q (c ∷ []) + (count q l + count q r))
  a_sums q = omega (arith, times-append q (b ∷ []) (blocks (Node c j u l r)), count-node q c j u l r)

  a_once : (q : ℕ) → times q (b ∷ []) + (times q (c ∷ []) + (count q l + count q r)) ≤ 1
  a_once q = omega (arith, a_sums q, a.apart.different q)

  more : (q : ℕ) (t : Tree) → times q (b ∷ blocks t) ≡ times q (b ∷ []) + count q t
  more q t = times-append q (b ∷ []) (blocks t)

  a_key : slice_index w top ≡ j
  a_key = ap (λ x. slice_index w x) a.top_is ∙ a.stands.0.key_is

  a_left : slice_index w (top + 2) ≡ root n l
  a_left = ap (λ x. slice_index w (x + 2)) a.top_is ∙ a.stands.1.left_is

  a_right : slice_index w (top + 3) ≡ root n r
  a_right = ap (λ x. slice_index w (x + 3)) a.top_is ∙ a.stands.1.right_is

  go_left : (left : ℕ) → left ≡ slice_index w (top + 2) → IsAttach n w left node b k v l
  go_left left is = record {
    top_is = is ∙ a_left;
    stands = a.stands.2;
    node_is = a.node_is;
    single = a.single;
    apart = apart_part old (b ∷ blocks l) (λ q. omega (arith, a_sums q, more q l)) a.apart;
  }

  go_right : (right : ℕ) → right ≡ slice_index w (top + 3) → IsAttach n w right node b k v r
  go_right right is = record {
    top_is = is ∙ a_right;
    stands = a.stands.3;
    node_is = a.node_is;
    single = a.single;
    apart = apart_part old (b ∷ blocks r) (λ q. omega (arith, a_sums q, more q r)) a.apart;
  }

  fork_left : (left right : ℕ) {w1 : List ℕ} → right ≡ slice_index w (top + 3) → BuildsTreeAt n (b ∷ blocks l) w w1 (attached b k v l) left → IsFork n w1 top left right c j u (attached b k v l) r
  fork_left left right right_is one = record {
    top_is = a.top_is;
    left_is = one.at_is;
    right_is = right_is ∙ a_right;
    holds = entry_apart c j u one.becomes.others (omega (arith, a_once c, more c l, times_here c [])) a.stands.0;
    stands_left = one.becomes.stands;
    stands_right = stands_apart r one.becomes.others (λ q some. omega (arith, a_once q, more q l, some)) a.stands.3;
    apart = apart_part old (blocks (Node c j u (attached b k v l) r)) (λ q. omega (arith, a_sums q, count-node q c j u (attached b k v l) r, count-attached q b k v l)) a.apart;
  }

  fork_right : (left right : ℕ) {w1 : List ℕ} → left ≡ slice_index w (top + 2) → BuildsTreeAt n (b ∷ blocks r) w w1 (attached b k v r) right → IsFork n w1 top left right c j u l (attached b k v r)
  fork_right left right left_is one = record {
    top_is = a.top_is;
    left_is = left_is ∙ a_left;
    right_is = one.at_is;
    holds = entry_apart c j u one.becomes.others (omega (arith, a_once c, more c r, times_here c [])) a.stands.0;
    stands_left = stands_apart l one.becomes.others (λ q some. omega (arith, a_once q, more q r, some)) a.stands.2;
    stands_right = one.becomes.stands;
    apart = apart_part old (blocks (Node c j u l (attached b k v r))) (λ q. omega (arith, a_sums q, count-node q c j u l (attached b k v r), count-attached q b k v r)) a.apart;
  }

  done_left : {left at : ℕ} {w1 w2 : List ℕ} → k < j → BuildsTreeAt n (b ∷ blocks l) w w1 (attached b k v l) left → BuildsTreeAt n (blocks (Node c j u (attached b k v l) r)) w1 w2 (balanced c j u (attached b k v l) r) at
      → BuildsTreeAt n old w w2 (attached b k v (Node c j u l r)) at
  done_left {left} {at} {w1} {w2} lt one two = of_below (λ t. BuildsTreeAt n old w w2 t at) k j (balanced c j u (attached b k v l) r) (balanced c j u l (attached b k v r))
      (λ _. record {
        at_is = two.at_is;
        becomes = record {
          stands = two.becomes.stands;
          others = changes_then old (λ q some. omega (arith, a_sums q, more q l, some)) (λ q some. omega (arith, a_sums q, count-node q c j u (attached b k v l) r, count-attached q b k v l, some)) one.becomes.others two.becomes.others;
        };
      })
      (λ ge. absurd (omega arith))

  done_right : {right at : ℕ} {w1 w2 : List ℕ} → j ≤ k → BuildsTreeAt n (b ∷ blocks r) w w1 (attached b k v r) right → BuildsTreeAt n (blocks (Node c j u l (attached b k v r))) w1 w2 (balanced c j u l (attached b k v r)) at
      → BuildsTreeAt n old w w2 (attached b k v (Node c j u l r)) at
  done_right {right} {at} {w1} {w2} ge one two = of_below (λ t. BuildsTreeAt n old w w2 t at) k j (balanced c j u (attached b k v l) r) (balanced c j u l (attached b k v r))
      (λ lt. absurd (omega arith))
      (λ _. record {
        at_is = two.at_is;
        becomes = record {
          stands = two.becomes.stands;
          others = changes_then old (λ q some. omega (arith, a_sums q, more q r, some)) (λ q some. omega (arith, a_sums q, count-node q c j u l (attached b k v r), count-attached q b k v r, some)) one.becomes.others two.becomes.others;
        };
      })

-- for any tree that is not empty
module _ {n top node k key left right : ℕ} {w : List ℕ} (some : top ≡ 0 → ⊥) (key_is : key ≡ slice_index w top) (left_is : left ≡ slice_index w (top + 2)) (right_is : right ≡ slice_index w (top + 3)) where
  pub attach_left : MayAttach n w top node k → MayAttach n w left node k
  attach_left m = go m.tree m.is
    where
      go : (t : Tree) → IsAttach n w top node m.block k m.value t → MayAttach n w left node k
      go Leaf a = absurd (some a.top_is)
      go (Node c j u l r) a = record { block = m.block; value = m.value; tree = l; is = go_left a left left_is }

  pub attach_right : MayAttach n w top node k → MayAttach n w right node k
  attach_right m = go m.tree m.is
    where
      go : (t : Tree) → IsAttach n w top node m.block k m.value t → MayAttach n w right node k
      go Leaf a = absurd (some a.top_is)
      go (Node c j u l r) a = record { block = m.block; value = m.value; tree = r; is = go_right a right right_is }

  pub attach_left_fork : {w1 : List ℕ} {at : ℕ} → MayAttach n w top node k → AttachedBy n left node k w w1 at → HasFork n w1 top at right
  attach_left_fork {w1} {at} m one = go m.tree m.is
    where
      go : (t : Tree) → IsAttach n w top node m.block k m.value t → HasFork n w1 top at right
      go Leaf a = absurd (some a.top_is)
      go (Node c j u l r) a = record { block = c; key = j; value = u; on_left = attached m.block k m.value l; on_right = r; is = fork_left a at right right_is (one m.block m.value l (go_left a left left_is)) }

  pub attach_right_fork : {w1 : List ℕ} {at : ℕ} → MayAttach n w top node k → AttachedBy n right node k w w1 at → HasFork n w1 top left at
  attach_right_fork {w1} {at} m one = go m.tree m.is
    where
      go : (t : Tree) → IsAttach n w top node m.block k m.value t → HasFork n w1 top left at
      go Leaf a = absurd (some a.top_is)
      go (Node c j u l r) a = record { block = c; key = j; value = u; on_left = l; on_right = attached m.block k m.value r; is = fork_right a left at left_is (one m.block m.value r (go_right a right right_is)) }

  pub attach_left_done : {w1 w2 : List ℕ} (at to : ℕ) → k < key → AttachedBy n left node k w w1 at → TurnedBy n top at right balanced w1 w2 to → AttachedBy n top node k w w2 to
  attach_left_done at to lt one two b v Leaf a = absurd (some a.top_is)
  attach_left_done at to lt one two b v (Node c j u l r) a =
      let first = one b v l (go_left a left left_is) in
      done_left a (omega (arith, lt, key_is, a_key a)) first (two c j u (attached b k v l) r (fork_left a at right right_is first))

  pub attach_right_done : {w1 w2 : List ℕ} (at to : ℕ) → key ≤ k → AttachedBy n right node k w w1 at → TurnedBy n top left at balanced w1 w2 to → AttachedBy n top node k w w2 to
  attach_right_done at to ge one two b v Leaf a = absurd (some a.top_is)
  attach_right_done at to ge one two b v (Node c j u l r) a =
      let first = one b v r (go_right a right right_is) in
      done_right a (omega (arith, ge, key_is, a_key a)) first (two c j u l (attached b k v r) (fork_right a left at left_is first))

-- the level of a subtree by what was read
pub level_read : (w v : List ℕ) (at link : ℕ) → v ≡ w → link ≡ slice_index w at → level_at v link ≡ level_at w (slice_index w at)
level_read w v at link same is = λ i. level_at (same i) (is i)

pub level_left : {n top : ℕ} (w v : List ℕ) (left : ℕ) → (top ≡ 0 → ⊥) → HasTree n w top → v ≡ w → left ≡ slice_index w (top + 2) → level_at v left + 1 ≤ level_at w top
level_left {n} {top} w v left some t same is = omega (arith, level_read w v (top + 2) left same is, lower_left w some t.tree t.is)

pub level_right : {n top : ℕ} (w v : List ℕ) (right : ℕ) → (top ≡ 0 → ⊥) → HasTree n w top → v ≡ w → right ≡ slice_index w (top + 3) → level_at v right + 1 ≤ level_at w top
level_right {n} {top} w v right some t same is = omega (arith, level_read w v (top + 3) right same is, lower_right w some t.tree t.is)
