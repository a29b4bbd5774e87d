-- A node that is taken out of a tree, step by step.
use Rattle.std.proofs.Common.{◌≡◌, ℕ, ◌+◌, ◌<◌, ◌≤◌, List, [], ◌∷◌, ◌++◌, refl, sym, ◌∙◌, ap, subst, arith}
use Rattle.std.specs.Prelude.{slice_index, nat_lt, if◌then◌else◌}
use Rattle.rom_model.specs.Chains.{times}
use Rattle.rom_model.proofs.Times.{times_here, times-append}
use Rattle.rom_order_region.specs.declared.tree.remove.First.{First}
use Rattle.rom_order_region.specs.Tree.{Tree, Leaf, Node, blocks, balanced, leftmost_of, without_first, merged, detached}
use Rattle.rom_order_region.specs.Nodes.{root, TreeStands, IsTree, HasTree, IsFork, HasFork, BuildsTreeAt}
use Rattle.rom_order_region.specs.Detach.{IsLeftmost, IsPair, HasPair}
use Rattle.rom_order_region.proofs.Choice.{of_below}
use Rattle.rom_order_region.proofs.Members.{count, count-node, count-balanced, count-first, count-merged}
use Rattle.rom_order_region.proofs.Frame.{stands_apart, entry_apart, entry_same, apart_part, changes_then, changes_none}
use Rattle.rom_order_region.proofs.Balancing.{TurnedBy}

-- what taking out the leftmost node leaves
abbrev pub FirstBy : ℕ → ℕ → List ℕ → List ℕ → First → Type 0
FirstBy n top w w' first = (b k v : ℕ) (l r : Tree) → IsTree n w top (Node b k v l r) → IsLeftmost n w w' b k v l r first

abbrev pub MergedBy : ℕ → ℕ → ℕ → List ℕ → List ℕ → ℕ → Type 0
MergedBy n left right w w' at = (l r : Tree) → IsPair n w left right l r → BuildsTreeAt n (blocks l ++ blocks r) w w' (merged l r) at

abbrev pub DetachedBy : ℕ → ℕ → ℕ → List ℕ → List ℕ → ℕ → Type 0
DetachedBy n top k w w' at = (t : Tree) → IsTree n w top t → BuildsTreeAt n (blocks t) w w' (detached k t) at

-- blocks go, and none comes
pub count-detached_le : (a k : ℕ) (t : Tree) → count a (detached k t) ≤ count a t
count-detached_le a k Leaf = omega arith
count-detached_le a k (Node c j u l r) = of_below (λ t. count a t ≤ count a (Node c j u l r)) k j (balanced c j u (detached k l) r) (if nat_lt j k then balanced c j u l (detached k r) else merged l r)
    (λ _. omega (arith, count-balanced a c j u (detached k l) r, count-node a c j u l r, count-detached_le a k l))
    (λ _. of_below (λ t. count a t ≤ count a (Node c j u l r)) j k (balanced c j u l (detached k r)) (merged l r)
    (λ _. omega (arith, count-balanced a c j u l (detached k r), count-node a c j u l r, count-detached_le a k r))
    (λ _. omega (arith, count-merged a l r, count-node a c j u l r)))

-- a node and its subtrees as read
module _ {n top b k v : ℕ} {w : List ℕ} {l r : Tree} (is : IsTree n w top (Node b k v l r)) where
  pub read_left : slice_index w (top + 2) ≡ root n l
  read_left = ap (λ a. slice_index w (a + 2)) is.at_is ∙ is.stands.1.left_is

  pub read_right : slice_index w (top + 3) ≡ root n r
  read_right = ap (λ a. slice_index w (a + 3)) is.at_is ∙ is.stands.1.right_is

  pub read_key : slice_index w top ≡ k
  read_key = ap (λ a. slice_index w a) is.at_is ∙ is.stands.0.key_is

  pub left_sub : (left : ℕ) → left ≡ slice_index w (top + 2) → IsTree n w left l
  left_sub left left_is = record { at_is = left_is ∙ read_left; stands = is.stands.2; apart = apart_part (blocks (Node b k v l r)) (blocks l) (λ q. omega (arith, count-node q b k v l r)) is.apart }

  pub right_sub : (right : ℕ) → right ≡ slice_index w (top + 3) → IsTree n w right r
  right_sub right right_is = record { at_is = right_is ∙ read_right; stands = is.stands.3; apart = apart_part (blocks (Node b k v l r)) (blocks r) (λ q. omega (arith, count-node q b k v l r)) is.apart }

  once : (q : ℕ) → times q (b ∷ []) + (count q l + count q r) ≤ 1
  once q = omega (arith, count-node q b k v l r, is.apart.different q)

  -- the left subtree became another one
  pub fork_left : {w1 : List ℕ} (at right : ℕ) (m : Tree) → right ≡ slice_index w (top + 3) → ((q : ℕ) → count q m ≤ count q l) → BuildsTreeAt n (blocks l) w w1 m at → IsFork n w1 top at right b k v m r
  fork_left at right m right_is few one = record {
    top_is = is.at_is;
    left_is = one.at_is;
    right_is = right_is ∙ read_right;
    holds = entry_apart b k v one.becomes.others (omega (arith, once b, times_here b [])) is.stands.0;
    stands_left = one.becomes.stands;
    stands_right = stands_apart r one.becomes.others (λ q some. omega (arith, once q, some)) is.stands.3;
    apart = apart_part (blocks (Node b k v l r)) (blocks (Node b k v m r)) (λ q. omega (arith, count-node q b k v l r, count-node q b k v m r, few q)) is.apart;
  }

  pub fork_right : {w1 : List ℕ} (at left : ℕ) (m : Tree) → left ≡ slice_index w (top + 2) → ((q : ℕ) → count q m ≤ count q r) → BuildsTreeAt n (blocks r) w w1 m at → IsFork n w1 top left at b k v l m
  fork_right at left m left_is few one = record {
    top_is = is.at_is;
    left_is = left_is ∙ read_left;
    right_is = one.at_is;
    holds = entry_apart b k v one.becomes.others (omega (arith, once b, times_here b [])) is.stands.0;
    stands_left = stands_apart l one.becomes.others (λ q some. omega (arith, once q, some)) is.stands.2;
    stands_right = one.becomes.stands;
    apart = apart_part (blocks (Node b k v l r)) (blocks (Node b k v l m)) (λ q. omega (arith, count-node q b k v l r, count-node q b k v l m, few q)) is.apart;
  }

  pub then_left : {w1 w2 : List ℕ} {at to : ℕ} (m : Tree) → ((q : ℕ) → count q m ≤ count q l) → BuildsTreeAt n (blocks l) w w1 m at → BuildsTreeAt n (blocks (Node b k v m r)) w1 w2 (balanced b k v m r) to
      → BuildsTreeAt n (blocks (Node b k v l r)) w w2 (balanced b k v m r) to
  then_left m few one two = record {
    at_is = two.at_is;
    becomes = record {
      stands = two.becomes.stands;
      others = changes_then (blocks (Node b k v l r)) (λ q some. omega (arith, count-node q b k v l r, some)) (λ q some. omega (arith, count-node q b k v l r, count-node q b k v m r, few q, some)) one.becomes.others two.becomes.others;
    };
  }

  pub then_right : {w1 w2 : List ℕ} {at to : ℕ} (m : Tree) → ((q : ℕ) → count q m ≤ count q r) → BuildsTreeAt n (blocks r) w w1 m at → BuildsTreeAt n (blocks (Node b k v l m)) w1 w2 (balanced b k v l m) to
      → BuildsTreeAt n (blocks (Node b k v l r)) w w2 (balanced b k v l m) to
  then_right m few one two = record {
    at_is = two.at_is;
    becomes = record {
      stands = two.becomes.stands;
      others = changes_then (blocks (Node b k v l r)) (λ q some. omega (arith, count-node q b k v l r, some)) (λ q some. omega (arith, count-node q b k v l r, count-node q b k v l m, few q, some)) one.becomes.others two.becomes.others;
    };
  }

few_first : (b k v : ℕ) (l r : Tree) (q : ℕ) → count q (without_first b k v l r) ≤ count q (Node b k v l r)
few_first b k v l r q = omega (arith, count-first q b k v l r)

-- the leftmost node is the top one
pub first_here : {n top left right : ℕ} {w w' : List ℕ} → left ≡ 0 → w' ≡ w → left ≡ slice_index w (top + 2) → right ≡ slice_index w (top + 3) → FirstBy n top w w' record { node = top; rest = right }
first_here {n} {top} {left} {right} {w} {w'} none same left_is right_is b k v Leaf r is = record {
  node_is = is.at_is;
  holds = entry_same b (λ a inside. ap (λ (x : List ℕ). slice_index x a) same) k v is.stands.0;
  becomes = record {
    at_is = right_is ∙ read_right is;
    becomes = record { stands = subst (λ (x : List ℕ). TreeStands n x r) (sym same) is.stands.3; others = changes_none (blocks (Node b k v Leaf r)) same };
  };
}
first_here none same left_is right_is b k v (Node c j u x y) r is = absurd (omega (arith, none, left_is, read_left is))

-- it is that of the left subtree
module _ {n top left right : ℕ} {w : List ℕ} (some : left ≡ 0 → ⊥) (left_is : left ≡ slice_index w (top + 2)) (right_is : right ≡ slice_index w (top + 3)) where
  pub first_fork : {w1 : List ℕ} {first : First} → (top ≡ 0 → ⊥) → HasTree n w top → FirstBy n left w w1 first → HasFork n w1 top first.rest right
  first_fork {w1} {first} top_some t one = go t.tree t.is
    where
      go : (t : Tree) → IsTree n w top t → HasFork n w1 top first.rest right
      go Leaf is = absurd (top_some is.at_is)
      go (Node b k v Leaf r) is = absurd (some (left_is ∙ read_left is))
      go (Node b k v (Node c j u x y) r) is = record {
        block = b;
        key = k;
        value = v;
        on_left = without_first c j u x y;
        on_right = r;
        is = fork_left is first.rest right (without_first c j u x y) right_is (few_first c j u x y) (one c j u x y (left_sub is left left_is)).becomes;
      }

  pub first_done : {w1 w2 : List ℕ} {first : First} (to : ℕ) → FirstBy n left w w1 first → TurnedBy n top first.rest right balanced w1 w2 to → FirstBy n top w w2 record { node = first.node; rest = to }
  first_done to one two b k v Leaf r is = absurd (some (left_is ∙ read_left is))
  first_done {first = first} to one two b k v (Node c j u x y) r is =
      let was = one c j u x y (left_sub is left left_is) in
      let f = leftmost_of c j u x in
      let rest = two b k v (without_first c j u x y) r (fork_left is first.rest right (without_first c j u x y) right_is (few_first c j u x y) was.becomes) in
      record {
        node_is = was.node_is;
        holds = entry_apart f.block f.key f.value rest.becomes.others
            (omega (arith, count-node f.block b k v (without_first c j u x y) r, count-first f.block c j u x y, times_here f.block [], once is f.block)) was.holds;
        becomes = then_left is (without_first c j u x y) (few_first c j u x y) was.becomes rest;
      }

-- two trees become one
pub merge_empty : {n left right : ℕ} {w w' : List ℕ} → right ≡ 0 → w' ≡ w → MergedBy n left right w w' left
merge_empty {n} {w = w} {w' = w'} none same l Leaf p = record {
  at_is = p.left_is;
  becomes = record { stands = subst (λ (x : List ℕ). TreeStands n x l) (sym same) p.stands_left; others = changes_none (blocks l ++ []) same };
}
merge_empty none same l (Node c j u x y) p = absurd (omega (arith, none, p.right_is))

pub pair_right : {n left right : ℕ} {w : List ℕ} {l r : Tree} → IsPair n w left right l r → IsTree n w right r
pair_right {l = l} {r = r} p = record { at_is = p.right_is; stands = p.stands_right; apart = apart_part (blocks l ++ blocks r) (blocks r) (λ q. omega (arith, times-append q (blocks l) (blocks r))) p.apart }

module _ {n left right : ℕ} {w : List ℕ} {c j u : ℕ} {l x y : Tree} (p : IsPair n w left right l (Node c j u x y)) {w1 : List ℕ} {first : First} (one : IsLeftmost n w w1 c j u x y first) where
  pub pair_fork : (b k v : ℕ) → b ≡ (leftmost_of c j u x).block → k ≡ (leftmost_of c j u x).key → v ≡ (leftmost_of c j u x).value → IsFork n w1 first.node left first.rest (leftmost_of c j u x).block (leftmost_of c j u x).key (leftmost_of c j u x).value l (without_first c j u x y)
  pair_fork b k v _ _ _ =
      let f = leftmost_of c j u x in
      record {
        top_is = one.node_is;
        left_is = p.left_is;
        right_is = one.becomes.at_is;
        holds = one.holds;
        stands_left = stands_apart l one.becomes.becomes.others (λ q some. omega (arith, p.apart.different q, times-append q (blocks l) (blocks (Node c j u x y)), some)) p.stands_left;
        stands_right = one.becomes.becomes.stands;
        apart = apart_part (blocks l ++ blocks (Node c j u x y)) (blocks (Node f.block f.key f.value l (without_first c j u x y)))
            (λ q. omega (arith, times-append q (blocks l) (blocks (Node c j u x y)), count-node q f.block f.key f.value l (without_first c j u x y), count-first q c j u x y)) p.apart;
      }

pub merge_fork : {n left right : ℕ} {w w1 : List ℕ} {first : First} → (right ≡ 0 → ⊥) → HasPair n w left right → FirstBy n right w w1 first → HasFork n w1 first.node left first.rest
merge_fork {n} {left} {right} {w} {w1} {first} some m one = go m.on_left m.on_right m.is
  where
    go : (l r : Tree) → IsPair n w left right l r → HasFork n w1 first.node left first.rest
    go l Leaf p = absurd (some p.right_is)
    go l (Node c j u x y) p =
        let f = leftmost_of c j u x in
        record { block = f.block; key = f.key; value = f.value; on_left = l; on_right = without_first c j u x y; is = pair_fork p (one c j u x y (pair_right p)) f.block f.key f.value refl refl refl }

pub merge_done : {n left right : ℕ} {w w1 w2 : List ℕ} {first : First} (to : ℕ) → (right ≡ 0 → ⊥) → FirstBy n right w w1 first → TurnedBy n first.node left first.rest balanced w1 w2 to → MergedBy n left right w w2 to
merge_done to some one two l Leaf p = absurd (some p.right_is)
merge_done to some one two l (Node c j u x y) p =
    let f = leftmost_of c j u x in
    let was = one c j u x y (pair_right p) in
    let rest = two f.block f.key f.value l (without_first c j u x y) (pair_fork p was f.block f.key f.value refl refl refl) in
    record {
      at_is = rest.at_is;
      becomes = record {
        stands = rest.becomes.stands;
        others = changes_then (blocks l ++ blocks (Node c j u x y)) (λ q some. omega (arith, times-append q (blocks l) (blocks (Node c j u x y)), some))
            (λ q some. omega (arith, times-append q (blocks l) (blocks (Node c j u x y)), count-node q f.block f.key f.value l (without_first c j u x y), count-first q c j u x y, some)) was.becomes.becomes.others rest.becomes.others;
      };
    }

-- a key's node goes
pub detach_empty : {n top : ℕ} (k : ℕ) {w w' : List ℕ} → top ≡ 0 → w' ≡ w → DetachedBy n top k w w' 0
detach_empty k none same Leaf is = record { at_is = refl; becomes = record { stands = tt; others = changes_none [] same } }
detach_empty k none same (Node c j u l r) is = absurd (omega (arith, none, is.at_is))

module _ {n top key left right : ℕ} {w : List ℕ} (some : top ≡ 0 → ⊥) (key_is : key ≡ slice_index w top) (left_is : left ≡ slice_index w (top + 2)) (right_is : right ≡ slice_index w (top + 3)) where
  pub detach_left_tree : HasTree n w top → HasTree n w left
  detach_left_tree t = go t.tree t.is
    where
      go : (t : Tree) → IsTree n w top t → HasTree n w left
      go Leaf is = absurd (some is.at_is)
      go (Node c j u l r) is = record { tree = l; is = left_sub is left left_is }

  pub detach_right_tree : HasTree n w top → HasTree n w right
  detach_right_tree t = go t.tree t.is
    where
      go : (t : Tree) → IsTree n w top t → HasTree n w right
      go Leaf is = absurd (some is.at_is)
      go (Node c j u l r) is = record { tree = r; is = right_sub is right right_is }

  module _ (k : ℕ) where
    pub detach_left_fork : {w1 : List ℕ} {at : ℕ} → HasTree n w top → DetachedBy n left k w w1 at → HasFork n w1 top at right
    detach_left_fork {w1} {at} t one = go t.tree t.is
      where
        go : (t : Tree) → IsTree n w top t → HasFork n w1 top at right
        go Leaf is = absurd (some is.at_is)
        go (Node c j u l r) is = record { block = c; key = j; value = u; on_left = detached k l; on_right = r; is = fork_left is at right (detached k l) right_is (λ q. count-detached_le q k l) (one l (left_sub is left left_is)) }

    pub detach_right_fork : {w1 : List ℕ} {at : ℕ} → HasTree n w top → DetachedBy n right k w w1 at → HasFork n w1 top left at
    detach_right_fork {w1} {at} t one = go t.tree t.is
      where
        go : (t : Tree) → IsTree n w top t → HasFork n w1 top left at
        go Leaf is = absurd (some is.at_is)
        go (Node c j u l r) is = record { block = c; key = j; value = u; on_left = l; on_right = detached k r; is = fork_right is at left (detached k r) left_is (λ q. count-detached_le q k r) (one r (right_sub is right right_is)) }

    pub detach_left_done : {w1 w2 : List ℕ} (at to : ℕ) → k < key → DetachedBy n left k w w1 at → TurnedBy n top at right balanced w1 w2 to → DetachedBy n top k w w2 to
    detach_left_done at to lt one two Leaf is = absurd (some is.at_is)
    detach_left_done {w2 = w2} at to lt one two (Node c j u l r) is =
        let was = one l (left_sub is left left_is) in
        let rest = two c j u (detached k l) r (fork_left is at right (detached k l) right_is (λ q. count-detached_le q k l) was) in
        of_below (λ t. BuildsTreeAt n (blocks (Node c j u l r)) w w2 t to) k j (balanced c j u (detached k l) r) (if nat_lt j k then balanced c j u l (detached k r) else merged l r)
        (λ _. then_left is (detached k l) (λ q. count-detached_le q k l) was rest)
        (λ ge. absurd (omega (arith, ge, lt, key_is, read_key is)))

    pub detach_right_done : {w1 w2 : List ℕ} (at to : ℕ) → key < k → DetachedBy n right k w w1 at → TurnedBy n top left at balanced w1 w2 to → DetachedBy n top k w w2 to
    detach_right_done at to gt one two Leaf is = absurd (some is.at_is)
    detach_right_done {w2 = w2} at to gt one two (Node c j u l r) is =
        let was = one r (right_sub is right right_is) in
        let rest = two c j u l (detached k r) (fork_right is at left (detached k r) left_is (λ q. count-detached_le q k r) was) in
        of_below (λ t. BuildsTreeAt n (blocks (Node c j u l r)) w w2 t to) k j (balanced c j u (detached k l) r) (if nat_lt j k then balanced c j u l (detached k r) else merged l r)
        (λ lt. absurd (omega (arith, gt, lt, key_is, read_key is)))
        (λ _. of_below (λ t. BuildsTreeAt n (blocks (Node c j u l r)) w w2 t to) j k (balanced c j u l (detached k r)) (merged l r)
        (λ _. then_right is (detached k r) (λ q. count-detached_le q k r) was rest)
        (λ le. absurd (omega (arith, gt, le, key_is, read_key is))))

    pair_of : {c j u : ℕ} {l r : Tree} → IsTree n w top (Node c j u l r) → IsPair n w left right l r
    pair_of {c} {j} {u} {l} {r} is = record {
      left_is = left_is ∙ read_left is;
      right_is = right_is ∙ read_right is;
      stands_left = is.stands.2;
      stands_right = is.stands.3;
      apart = apart_part (blocks (Node c j u l r)) (blocks l ++ blocks r) (λ q. omega (arith, count-node q c j u l r, times-append q (blocks l) (blocks r))) is.apart;
    }

    pub detach_pair : HasTree n w top → HasPair n w left right
    detach_pair t = go t.tree t.is
      where
        go : (t : Tree) → IsTree n w top t → HasPair n w left right
        go Leaf is = absurd (some is.at_is)
        go (Node c j u l r) is = record { on_left = l; on_right = r; is = pair_of is }

    pub detach_here_done : {w1 : List ℕ} (to : ℕ) → key ≤ k → k ≤ key → MergedBy n left right w w1 to → DetachedBy n top k w w1 to
    detach_here_done to le ge one Leaf is = absurd (some is.at_is)
    detach_here_done {w1} to le ge one (Node c j u l r) is =
        let was = one l r (pair_of is) in
        of_below (λ t. BuildsTreeAt n (blocks (Node c j u l r)) w w1 t to) k j (balanced c j u (detached k l) r) (if nat_lt j k then balanced c j u l (detached k r) else merged l r)
        (λ lt. absurd (omega (arith, lt, le, key_is, read_key is)))
        (λ _. of_below (λ t. BuildsTreeAt n (blocks (Node c j u l r)) w w1 t to) j k (balanced c j u l (detached k r)) (merged l r)
        (λ lt. absurd (omega (arith, lt, ge, key_is, read_key is)))
        (λ _. record {
          at_is = was.at_is;
          becomes = record {
            stands = was.becomes.stands;
            others = changes_then (blocks (Node c j u l r)) (λ q some. omega (arith, count-node q c j u l r, times-append q (blocks l) (blocks r), some)) (λ q some. some) was.becomes.others (changes_none (blocks (Node c j u l r)) refl);
          };
        }))
