-- Words that a change elsewhere leaves, and where nodes lie in a region.
use Rattle.std.proofs.Common.{◌≡◌, ℕ, ◌+◌, ◌-◌, ◌*◌, ◌^◌, ◌<◌, ◌≤◌, true, false, List, [], ◌++◌, length, refl, sym, ◌∙◌, ap, arith, length-append}
use Rattle.std.specs.Prelude.{slice_index, ◌==◌, if◌then◌else◌}
use Rattle.std.proofs.lemmas.Bool.Decides.{nat_tests}
use Rattle.rom_model.specs.Blocks.{IsOrder}
use Rattle.rom_model.specs.Chains.{times}
use Rattle.rom_model.proofs.Times.{times_here}
use Rattle.rom_model.proofs.Nodes.{two_pow, pow_small}
use Rattle.rom_model.proofs.Counting.{at_most}
use Rattle.rom_order_region.specs.Tree.{Tree, Leaf, Node, blocks, height}
use Rattle.rom_order_region.specs.Nodes.{node_at, root, HoldsEntry, HoldsLinks, TreeStands, AreNodesApart, IsWordOfNode, ChangesNodes, IsTree, HasTree, IsFork, level_at}
use Rattle.rom_order_region.proofs.Members.{count, count-node}

pub half_pow : (n : ℕ) → 1 ≤ n → 2 * 2 ^ (n - 1) ≡ 2 ^ n
half_pow n le = let e : n - 1 + 1 ≡ n = omega arith in sym (two_pow (n - 1)) ∙ ap (λ a. 2 ^ a) e

-- a node lies in the region
pub node_within : (n b : ℕ) → IsOrder n → b < 2 ^ (n - 1) → node_at n b + 8 ≤ 16 + 6 * 2 ^ n
node_within n b order lt = omega (arith, half_pow n (omega (arith, order.least)), lt)

pub node_small : (n b : ℕ) → IsOrder n → b < 2 ^ (n - 1) → node_at n b + 8 ≤ 393232
node_small n b order lt = omega (arith, node_within n b order lt, pow_small n order.most)

pub half_small : (n : ℕ) → IsOrder n → 2 ^ (n - 1) ≤ 32768
half_small n order = omega (arith, half_pow n (omega (arith, order.least)), pow_small n order.most)

-- a word lies in one node
pub one_node : (n b c k : ℕ) → IsWordOfNode n b k → IsWordOfNode n c k → b ≡ c
one_node n b c k p q = omega (arith, p.least, p.most, q.least, q.most)

-- a block by a place in its node
pub in_node : (n b j : ℕ) → j < 8 → IsWordOfNode n b (node_at n b + j)
in_node n b j lt = record { least = omega arith; most = omega arith }

pub in_first : (n b : ℕ) → IsWordOfNode n b (node_at n b)
in_first n b = record { least = omega arith; most = omega arith }

-- words of other nodes stay
pub node_same : {n : ℕ} {bs w w' : List ℕ} (c k : ℕ) → ChangesNodes n bs w w' → times c bs ≡ 0 → IsWordOfNode n c k → slice_index w' k ≡ slice_index w k
node_same {n} {bs} c k changes none inside = changes.others k (λ b some in_b. absurd (omega (arith, some, none, ap (λ x. times x bs) (one_node n b c k in_b inside))))

module _ {n : ℕ} {w w' : List ℕ} (b : ℕ) (same : (k : ℕ) → IsWordOfNode n b k → slice_index w' k ≡ slice_index w k) where
  pub entry_same : (k v : ℕ) → HoldsEntry n w b k v → HoldsEntry n w' b k v
  entry_same k v holds = record {
    key_is = same (node_at n b) (in_first n b) ∙ holds.key_is;
    value_is = same (node_at n b + 1) (in_node n b 1 (omega arith)) ∙ holds.value_is;
    sixth = same (node_at n b + 5) (in_node n b 5 (omega arith)) ∙ holds.sixth;
    seventh = same (node_at n b + 6) (in_node n b 6 (omega arith)) ∙ holds.seventh;
    eighth = same (node_at n b + 7) (in_node n b 7 (omega arith)) ∙ holds.eighth;
  }

  pub links_same : (left right high : ℕ) → HoldsLinks n w b left right high → HoldsLinks n w' b left right high
  links_same left right high holds = record {
    left_is = same (node_at n b + 2) (in_node n b 2 (omega arith)) ∙ holds.left_is;
    right_is = same (node_at n b + 3) (in_node n b 3 (omega arith)) ∙ holds.right_is;
    high_is = same (node_at n b + 4) (in_node n b 4 (omega arith)) ∙ holds.high_is;
  }

-- the blocks of a node's parts are among those of the node
pub count_top : (b k v : ℕ) (l r : Tree) → 0 < count b (Node b k v l r)
count_top b k v l r = omega (arith, times_here b (blocks l ++ blocks r))

pub count_left : (c b k v : ℕ) (l r : Tree) → count c l ≤ count c (Node b k v l r)
count_left c b k v l r = omega (arith, count-node c b k v l r)

pub count_right : (c b k v : ℕ) (l r : Tree) → count c r ≤ count c (Node b k v l r)
count_right c b k v l r = omega (arith, count-node c b k v l r)

-- a tree stands still where the words of its nodes stay
pub stands_same : {n : ℕ} (w w' : List ℕ) (t : Tree) → ((c k : ℕ) → 0 < count c t → IsWordOfNode n c k → slice_index w' k ≡ slice_index w k) → TreeStands n w t → TreeStands n w' t
stands_same w w' Leaf same stands = tt
stands_same w w' (Node b k v l r) same stands = (
  entry_same b (λ a inside. same b a (count_top b k v l r) inside) k v stands.0,
  links_same b (λ a inside. same b a (count_top b k v l r) inside) _ _ _ stands.1,
  stands_same w w' l (λ c a some inside. same c a (omega (arith, some, count_left c b k v l r)) inside) stands.2,
  stands_same w w' r (λ c a some inside. same c a (omega (arith, some, count_right c b k v l r)) inside) stands.3,
)

pub stands_apart : {n : ℕ} {bs w w' : List ℕ} (t : Tree) → ChangesNodes n bs w w' → ((c : ℕ) → 0 < count c t → times c bs ≡ 0) → TreeStands n w t → TreeStands n w' t
stands_apart {w = w} {w' = w'} t changes away stands = stands_same w w' t (λ c k some inside. node_same c k changes (away c some) inside) stands

pub entry_apart : {n : ℕ} {bs w w' : List ℕ} (b k v : ℕ) → ChangesNodes n bs w w' → times b bs ≡ 0 → HoldsEntry n w b k v → HoldsEntry n w' b k v
entry_apart b k v changes none holds = entry_same b (λ a inside. node_same b a changes none inside) k v holds

-- one change after another
pub changes_then : {n : ℕ} {bs cs u v w : List ℕ} (ds : List ℕ) → ((b : ℕ) → 0 < times b bs → 0 < times b ds) → ((b : ℕ) → 0 < times b cs → 0 < times b ds) → ChangesNodes n bs u v → ChangesNodes n cs v w → ChangesNodes n ds u w
changes_then ds first second one two = record {
  as_long = two.as_long ∙ one.as_long;
  others = λ k outside. two.others k (λ b some. outside b (second b some)) ∙ one.others k (λ b some. outside b (first b some));
}

pub changes_none : {n : ℕ} {w w' : List ℕ} (bs : List ℕ) → w' ≡ w → ChangesNodes n bs w w'
changes_none bs same = record { as_long = ap length same; others = λ k outside. ap (λ x. slice_index x k) same }

-- a word of words that stay
pub read : (w v : List ℕ) (at word : ℕ) → word ≡ slice_index v at → v ≡ w → word ≡ slice_index w at
read w v at word is same = is ∙ ap (λ (x : List ℕ). slice_index x at) same

-- a tree has no more nodes than there are blocks, and is no higher
pub height_nodes : (t : Tree) → height t ≤ length (blocks t)
height_nodes Leaf = omega arith
height_nodes (Node b k v l r) = omega (arith, height_nodes l, height_nodes r, length-append (blocks l) (blocks r))

pub few_nodes : {n : ℕ} (bs : List ℕ) → AreNodesApart n bs → length bs ≤ 2 ^ (n - 1)
few_nodes {n} bs apart = at_most 0 (2 ^ (n - 1)) bs apart.different (λ b some. (omega arith, omega (arith, apart.within b some)))

pub height_few : {n : ℕ} (t : Tree) → AreNodesApart n (blocks t) → height t ≤ 2 ^ (n - 1)
height_few t apart = omega (arith, height_nodes t, few_nodes (blocks t) apart)

-- fewer blocks are apart too
pub apart_part : {n : ℕ} (bs cs : List ℕ) → ((b : ℕ) → times b cs ≤ times b bs) → AreNodesApart n bs → AreNodesApart n cs
apart_part bs cs part apart = record {
  different = λ b. omega (arith, part b, apart.different b);
  within = λ b some. apart.within b (omega (arith, part b, some));
}

-- what a link to a tree tells
pub no_tree : (n at : ℕ) (t : Tree) → at ≡ root n t → at ≡ 0 → t ≡ Leaf
no_tree n at Leaf is none = refl
no_tree n at (Node b k v l r) is none = absurd (omega (arith, is, none))

pub height_word : (n at : ℕ) (w : List ℕ) (t : Tree) → at ≡ root n t → (at ≡ 0 → ⊥) → TreeStands n w t → slice_index w (at + 4) ≡ height t
height_word n at w Leaf is some stands = absurd (some is)
height_word n at w (Node b k v l r) is some stands = ap (λ a. slice_index w (a + 4)) is ∙ stands.1.high_is

pub level_is : (n at : ℕ) (w : List ℕ) (t : Tree) → at ≡ root n t → TreeStands n w t → level_at w at ≡ height t
level_is n at w Leaf is stands = let e : (at == 0) ≡ true = grind (arith, nat_tests) in ap (λ b. if b then 0 else slice_index w (at + 4)) e
level_is n at w (Node b k v l r) is stands =
    let e : (at == 0) ≡ false = positive at (omega (arith, is)) in
    ap (λ b. if b then 0 else slice_index w (at + 4)) e ∙ ap (λ a. slice_index w (a + 4)) is ∙ stands.1.high_is
  where
    positive : (m : ℕ) → 0 < m → (m == 0) ≡ false
    positive m some = grind (arith, nat_tests)

-- a node that is linked lies in the region
pub top_within : (n at : ℕ) (t : Tree) → IsOrder n → AreNodesApart n (blocks t) → at ≡ root n t → (at ≡ 0 → ⊥) → at + 8 ≤ 16 + 6 * 2 ^ n
top_within n at Leaf order apart is some = absurd (some is)
top_within n at (Node b k v l r) order apart is some = omega (arith, is, node_within n b order (apart.within b (count_top b k v l r)))

pub top_small : (n at : ℕ) (t : Tree) → IsOrder n → AreNodesApart n (blocks t) → at ≡ root n t → (at ≡ 0 → ⊥) → at + 8 ≤ 393232
top_small n at t order apart is some = omega (arith, top_within n at t order apart is some, pow_small n order.most)

pub tree_small : {n at : ℕ} {w : List ℕ} {t : Tree} → IsOrder n → IsTree n w at t → height t ≤ 32768
tree_small {n} {at} {w} {t} order is = omega (arith, height_few t is.apart, half_small n order)

-- the subtrees of a node, by the words that link to them
module _ {n at to b k v : ℕ} {w : List ℕ} {l r : Tree} where
  pub left_below : to ≡ slice_index w (at + 2) → IsTree n w at (Node b k v l r) → IsTree n w to l
  left_below here is = record {
    at_is = here ∙ ap (λ a. slice_index w (a + 2)) is.at_is ∙ is.stands.1.left_is;
    stands = is.stands.2;
    apart = apart_part (blocks (Node b k v l r)) (blocks l) (λ c. count_left c b k v l r) is.apart;
  }

  pub right_below : to ≡ slice_index w (at + 3) → IsTree n w at (Node b k v l r) → IsTree n w to r
  right_below here is = record {
    at_is = here ∙ ap (λ a. slice_index w (a + 3)) is.at_is ∙ is.stands.1.right_is;
    stands = is.stands.3;
    apart = apart_part (blocks (Node b k v l r)) (blocks r) (λ c. count_right c b k v l r) is.apart;
  }

pub sub_left : {n at : ℕ} (w : List ℕ) (t : Tree) → IsTree n w at t → (at ≡ 0 → ⊥) → HasTree n w (slice_index w (at + 2))
sub_left w Leaf is some = absurd (some is.at_is)
sub_left w (Node b k v l r) is some = record { tree = l; is = left_below refl is }

pub sub_right : {n at : ℕ} (w : List ℕ) (t : Tree) → IsTree n w at t → (at ≡ 0 → ⊥) → HasTree n w (slice_index w (at + 3))
sub_right w Leaf is some = absurd (some is.at_is)
sub_right w (Node b k v l r) is some = record { tree = r; is = right_below refl is }

-- a tree that is linked by that number lies in the region
pub some_within : {n at : ℕ} {w : List ℕ} (to : ℕ) → IsOrder n → HasTree n w at → to ≡ at → (to ≡ 0 → ⊥) → to + 8 ≤ 16 + 6 * 2 ^ n
some_within {n} {at} to order t same some = top_within n to t.tree order t.is.apart (same ∙ t.is.at_is) some

pub some_small : {n at : ℕ} {w : List ℕ} (to : ℕ) → IsOrder n → HasTree n w at → to ≡ at → (to ≡ 0 → ⊥) → to + 8 ≤ 393232
some_small {n} {at} to order t same some = top_small n to t.tree order t.is.apart (same ∙ t.is.at_is) some

-- the two trees of a fork
module _ {n : ℕ} {w : List ℕ} {top left right b k v : ℕ} {l r : Tree} (f : IsFork n w top left right b k v l r) where
  pub left_tree : IsTree n w left l
  left_tree = record { at_is = f.left_is; stands = f.stands_left; apart = apart_part (blocks (Node b k v l r)) (blocks l) (λ c. count_left c b k v l r) f.apart }

  pub right_tree : IsTree n w right r
  right_tree = record { at_is = f.right_is; stands = f.stands_right; apart = apart_part (blocks (Node b k v l r)) (blocks r) (λ c. count_right c b k v l r) f.apart }

  pub fork_within : IsOrder n → top + 8 ≤ 16 + 6 * 2 ^ n
  fork_within order = omega (arith, f.top_is, node_within n b order (f.apart.within b (count_top b k v l r)))

  pub not_left : count b l ≡ 0
  not_left = omega (arith, f.apart.different b, count-node b b k v l r, times_here b [])

  pub not_right : count b r ≡ 0
  not_right = omega (arith, f.apart.different b, count-node b b k v l r, times_here b [])

  pub fork_small : IsOrder n → top + 8 ≤ 393232
  fork_small order = omega (arith, f.top_is, node_small n b order (f.apart.within b (count_top b k v l r)))
