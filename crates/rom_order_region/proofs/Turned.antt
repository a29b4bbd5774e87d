-- A node that is turned: nodes are put over other trees, one after another.
use Rattle.std.proofs.Common.{◌≡◌, ℕ, ◌+◌, ◌<◌, ◌≤◌, List, [], ◌∷◌, sym, ◌∙◌, ap, subst, arith}
use Rattle.rom_model.specs.Chains.{times}
use Rattle.rom_model.proofs.Times.{times_here}
use Rattle.rom_order_region.specs.declared.tree.turn.Side.{Side}
use Rattle.rom_order_region.specs.Tree.{Tree, blocks, height}
use Rattle.rom_order_region.specs.Nodes.{node_at, root, TreeStands, IsTree, BuildsTree, BuildsTreeAt}
use Rattle.rom_order_region.specs.Sides.{over, turned, IsForkOn, HasForkOn}
use Rattle.rom_order_region.proofs.Members.{count}
use Rattle.rom_order_region.proofs.Frame.{stands_apart, entry_apart, apart_part, changes_then}
use Rattle.rom_order_region.proofs.Sides.{StandsOver, IsOver, root_over, count_over, stands_over, as_over, turned_once, turned_twice}

-- what looking at a node's subtrees tells
abbrev pub SubtreesBy : ℕ → List ℕ → Side → ℕ → ℕ → ℕ → Type 0
SubtreesBy n w side at near far = (b k v : ℕ) (x y : Tree) → IsTree n w at (over side b k v x y) → IsTree n w near x × IsTree n w far y

-- what putting a node over two trees leaves
abbrev pub JoinedOn : ℕ → Side → ℕ → ℕ → ℕ → List ℕ → List ℕ → Type 0
JoinedOn n side top near far w w' = (b k v : ℕ) (x y : Tree) → IsForkOn n w side top near far b k v x y → BuildsTree n (b ∷ []) w w' (over side b k v x y)

-- a tree that is a node, whose subtrees those are
pub record IsOpened (n : ℕ) (w : List ℕ) (side : Side) (near far : ℕ) (t : Tree) : Type 0 where
  pub node : IsOver side t
  pub near_tree : IsTree n w near node.near
  pub far_tree : IsTree n w far node.far

pub opened : {n at near far : ℕ} {w : List ℕ} {side : Side} {t : Tree} → IsTree n w at t → (at ≡ 0 → ⊥) → SubtreesBy n w side at near far → IsOpened n w side near far t
opened {n} {at} {near} {far} {w} {side} {t} is some trees =
    let node = as_over n side t (λ none. some (is.at_is ∙ none)) in
    let parts = trees node.block node.key node.value node.near node.far (subst (λ (x : Tree). IsTree n w at x) node.is is) in
    record { node = node; near_tree = parts.0; far_tree = parts.1 }

-- The node b over the trees t and r, of which t is the node c over its own two.
module _ {n : ℕ} {w : List ℕ} {side : Side} {top near far outer inner b k v : ℕ} {t r : Tree} (f : IsForkOn n w side top near far b k v t r) (o : IsOpened n w side outer inner t) where
  abbrev whole : Tree
  whole = over side b k v t r

  abbrev c : ℕ
  c = o.node.block

  -- the one node over two trees, and the other
  abbrev under_b : Tree → Tree → Tree
  under_b x y = over side b k v x y

  abbrev under_c : Tree → Tree → Tree
  under_c x y = over side c o.node.key o.node.value x y

  sums : (q : ℕ) → count q whole ≡ times q (b ∷ []) + (times q (c ∷ []) + (count q o.node.near + count q o.node.far) + count q r)
  sums q = omega (arith, count_over side q b k v t r, ap (λ x. count q x) o.node.is, count_over side q c o.node.key o.node.value o.node.near o.node.far)

  parts : StandsOver n w c o.node.key o.node.value o.node.near o.node.far
  parts = stands_over side c o.node.key o.node.value o.node.near o.node.far (subst (λ x. TreeStands n w x) o.node.is f.stands_near)

  near_is : (x y : Tree) → near ≡ root n (under_c x y)
  near_is x y = f.near_is ∙ ap (λ s. root n s) o.node.is ∙ root_over n side c o.node.key o.node.value o.node.near o.node.far ∙ sym (root_over n side c o.node.key o.node.value x y)

  near_here : near ≡ node_at n c
  near_here = near_is o.node.near o.node.far ∙ root_over n side c o.node.key o.node.value o.node.near o.node.far

  top_is : (x y : Tree) → top ≡ root n (under_b x y)
  top_is x y = f.top_is ∙ sym (root_over n side b k v x y)

  -- the node c comes to the top
  single_fork : IsForkOn n w side top inner far b k v o.node.far r
  single_fork = record {
    top_is = f.top_is;
    near_is = o.far_tree.at_is;
    far_is = f.far_is;
    holds = f.holds;
    stands_near = parts.far;
    stands_far = f.stands_far;
    apart = apart_part (blocks whole) (blocks (under_b o.node.far r)) (λ q. omega (arith, sums q, count_over side q b k v o.node.far r)) f.apart;
  }

  pub single_one : HasForkOn n w side top inner far
  single_one = record { block = b; key = k; value = v; on_near = o.node.far; on_far = r; is = single_fork }

  module _ {w1 : List ℕ} (joined : JoinedOn n side top inner far w w1) where
    one : BuildsTree n (b ∷ []) w w1 (under_b o.node.far r)
    one = joined b k v o.node.far r single_fork

    top_fork : IsForkOn n w1 side near outer top c o.node.key o.node.value o.node.near (under_b o.node.far r)
    top_fork = record {
      top_is = near_here;
      near_is = o.near_tree.at_is;
      far_is = top_is o.node.far r;
      holds = entry_apart c o.node.key o.node.value one.others (omega (arith, f.apart.different c, sums c, times_here c [])) parts.holds;
      stands_near = stands_apart o.node.near one.others (λ q some. omega (arith, f.apart.different q, sums q, some)) parts.near;
      stands_far = one.stands;
      apart = apart_part (blocks whole) (blocks (under_c o.node.near (under_b o.node.far r))) (λ q. omega (arith, sums q, count_over side q c o.node.key o.node.value o.node.near (under_b o.node.far r), count_over side q b k v o.node.far r)) f.apart;
    }

    pub single_two : HasForkOn n w1 side near outer top
    single_two = record { block = c; key = o.node.key; value = o.node.value; on_near = o.node.near; on_far = under_b o.node.far r; is = top_fork }

    pub single_done : {w2 : List ℕ} → JoinedOn n side near outer top w1 w2 → height o.node.far ≤ height o.node.near → BuildsTreeAt n (blocks whole) w w2 (turned side b k v t r) near
    single_done {w2} again low =
        let two = again c o.node.key o.node.value o.node.near (under_b o.node.far r) top_fork in
        let same = ap (λ s. turned side b k v s r) o.node.is ∙ turned_once b k v c o.node.key o.node.value o.node.near side o.node.far r low in
        subst (λ (s : Tree). BuildsTreeAt n (blocks whole) w w2 s near) (sym same) record {
          at_is = near_is o.node.near (under_b o.node.far r);
          becomes = record {
            stands = two.stands;
            others = changes_then (blocks whole) (λ q some. omega (arith, sums q, some)) (λ q some. omega (arith, sums q, some)) one.others two.others;
          };
        }

  -- The node d, which is the node c's subtree on the other side, comes to the top.
  module _ {low high : ℕ} (p : IsOpened n w side low high o.node.far) where
    abbrev d : ℕ
    d = p.node.block

    abbrev under_d : Tree → Tree → Tree
    under_d x y = over side d p.node.key p.node.value x y

    abbrev on_near : Tree
    on_near = under_c o.node.near p.node.near

    abbrev on_far : Tree
    on_far = under_b p.node.far r

    all_sums : (q : ℕ) → count q whole ≡ times q (b ∷ []) + (times q (c ∷ []) + (count q o.node.near + (times q (d ∷ []) + (count q p.node.near + count q p.node.far))) + count q r)
    all_sums q = omega (arith, sums q, ap (λ x. count q x) p.node.is, count_over side q d p.node.key p.node.value p.node.near p.node.far)

    near_count : (q : ℕ) → count q on_near ≡ times q (c ∷ []) + (count q o.node.near + count q p.node.near)
    near_count q = count_over side q c o.node.key o.node.value o.node.near p.node.near

    far_count : (q : ℕ) → count q on_far ≡ times q (b ∷ []) + (count q p.node.far + count q r)
    far_count q = count_over side q b k v p.node.far r

    middle : StandsOver n w d p.node.key p.node.value p.node.near p.node.far
    middle = stands_over side d p.node.key p.node.value p.node.near p.node.far (subst (λ x. TreeStands n w x) p.node.is parts.far)

    inner_is : (x y : Tree) → inner ≡ root n (under_d x y)
    inner_is x y = o.far_tree.at_is ∙ ap (λ s. root n s) p.node.is ∙ root_over n side d p.node.key p.node.value p.node.near p.node.far ∙ sym (root_over n side d p.node.key p.node.value x y)

    near_fork : IsForkOn n w side near outer low c o.node.key o.node.value o.node.near p.node.near
    near_fork = record {
      top_is = near_here;
      near_is = o.near_tree.at_is;
      far_is = p.near_tree.at_is;
      holds = parts.holds;
      stands_near = parts.near;
      stands_far = middle.near;
      apart = apart_part (blocks whole) (blocks on_near) (λ q. omega (arith, all_sums q, near_count q)) f.apart;
    }

    pub double_one : HasForkOn n w side near outer low
    double_one = record { block = c; key = o.node.key; value = o.node.value; on_near = o.node.near; on_far = p.node.near; is = near_fork }

    module _ {w1 : List ℕ} (joined : JoinedOn n side near outer low w w1) where
      first : BuildsTree n (c ∷ []) w w1 on_near
      first = joined c o.node.key o.node.value o.node.near p.node.near near_fork

      far_fork : IsForkOn n w1 side top high far b k v p.node.far r
      far_fork = record {
        top_is = f.top_is;
        near_is = p.far_tree.at_is;
        far_is = f.far_is;
        holds = entry_apart b k v first.others (omega (arith, f.apart.different b, all_sums b, times_here b [])) f.holds;
        stands_near = stands_apart p.node.far first.others (λ q some. omega (arith, f.apart.different q, all_sums q, some)) middle.far;
        stands_far = stands_apart r first.others (λ q some. omega (arith, f.apart.different q, all_sums q, some)) f.stands_far;
        apart = apart_part (blocks whole) (blocks on_far) (λ q. omega (arith, all_sums q, far_count q)) f.apart;
      }

      pub double_two : HasForkOn n w1 side top high far
      double_two = record { block = b; key = k; value = v; on_near = p.node.far; on_far = r; is = far_fork }

      module _ {w2 : List ℕ} (again : JoinedOn n side top high far w1 w2) where
        second : BuildsTree n (b ∷ []) w1 w2 on_far
        second = again b k v p.node.far r far_fork

        last_fork : IsForkOn n w2 side inner near top d p.node.key p.node.value on_near on_far
        last_fork = record {
          top_is = inner_is on_near on_far ∙ root_over n side d p.node.key p.node.value on_near on_far;
          near_is = near_is o.node.near p.node.near;
          far_is = top_is p.node.far r;
          holds = entry_apart d p.node.key p.node.value second.others (omega (arith, f.apart.different d, all_sums d, times_here d []))
              (entry_apart d p.node.key p.node.value first.others (omega (arith, f.apart.different d, all_sums d, times_here d [])) middle.holds);
          stands_near = stands_apart on_near second.others (λ q some. omega (arith, f.apart.different q, all_sums q, some, near_count q)) first.stands;
          stands_far = second.stands;
          apart = apart_part (blocks whole) (blocks (under_d on_near on_far)) (λ q. omega (arith, all_sums q, count_over side q d p.node.key p.node.value on_near on_far, near_count q, far_count q)) f.apart;
        }

        pub double_three : HasForkOn n w2 side inner near top
        double_three = record { block = d; key = p.node.key; value = p.node.value; on_near = on_near; on_far = on_far; is = last_fork }

        pub double_done : {w3 : List ℕ} → JoinedOn n side inner near top w2 w3 → height o.node.near < height o.node.far → BuildsTreeAt n (blocks whole) w w3 (turned side b k v t r) inner
        double_done {w3} last deep =
            let third = last d p.node.key p.node.value on_near on_far last_fork in
            let is = o.node.is ∙ ap (λ s. under_c o.node.near s) p.node.is in
            let deep_too = subst (λ (s : Tree). height o.node.near < height s) p.node.is deep in
            let same = ap (λ s. turned side b k v s r) is ∙ turned_twice b k v c o.node.key o.node.value o.node.near side d p.node.key p.node.value p.node.near p.node.far r deep_too in
            subst (λ (s : Tree). BuildsTreeAt n (blocks whole) w w3 s inner) (sym same) record {
              at_is = inner_is on_near on_far;
              becomes = record {
                stands = third.stands;
                others = changes_then (blocks whole) (λ q some. omega (arith, all_sums q, some)) (λ q some. omega (arith, all_sums q, some))
                    (changes_then (blocks whole) (λ q some. omega (arith, all_sums q, some)) (λ q some. omega (arith, all_sums q, some)) first.others second.others) third.others;
              };
            }
