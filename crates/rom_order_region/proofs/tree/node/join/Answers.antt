use Rattle.std.proofs.Common.{◌≡◌, ◌+◌, ap, sym, ◌∙◌, arith, length, List, ℕ, subst, length-set}
use Rattle.std.specs.Prelude.{slice_set}
use Rattle.rom_order_region.specs.Tree.{height}
use Rattle.rom_order_region.specs.Nodes.{HasTree, IsTree}
use Rattle.rom_order_region.proofs.Frame.{left_tree, right_tree, fork_within, fork_small}
use Rattle.rom_order_region.proofs.Joined.{joined}
use Rattle.rom_order_region.proofs.tree.node.join.Goals as goal

pub height-on_left-requires-clause-tree : goal.height-on_left-requires-clause-tree
height-on_left-requires-clause-tree g c = record { tree = c.requires.fork.on_left; is = left_tree c.requires.fork.is }

pub height-on_right-requires-clause-tree : goal.height-on_right-requires-clause-tree
height-on_right-requires-clause-tree g c =
    subst (λ (x : List ℕ). HasTree c.args.order x c.args.right) (sym c.height-on_left.ensures.looks.image) record { tree = c.requires.fork.on_right; is = right_tree c.requires.fork.is }

pub overflow_add-top : goal.overflow_add-top
overflow_add-top g c = omega (arith, fork_small c.requires.fork.is c.requires.order)

pub store_changed-requires-clause-within : goal.store_changed-requires-clause-within
store_changed-requires-clause-within g c =
    omega (arith, fork_within c.requires.fork.is c.requires.order, c.requires.sized, ap length c.height-on_right.ensures.looks.image, ap length c.height-on_left.ensures.looks.image)

pub overflow_add-top-2 : goal.overflow_add-top-2
overflow_add-top-2 g c = omega (arith, fork_small c.requires.fork.is c.requires.order)

pub store_changed-requires-2-clause-within : goal.store_changed-requires-2-clause-within
store_changed-requires-2-clause-within g c =
    let w = g.M.Look.shown.image c.height-on_right.new.space in
    omega (arith, fork_within c.requires.fork.is c.requires.order, c.requires.sized, ap length c.store_changed.ensures.image, length-set w (c.args.top + 2) c.args.left, ap length c.height-on_right.ensures.looks.image, ap length c.height-on_left.ensures.looks.image)

pub overflow_add-top-3 : goal.overflow_add-top-3
overflow_add-top-3 g c = omega (arith, fork_small c.requires.fork.is c.requires.order)

pub store_changed-requires-3-clause-within : goal.store_changed-requires-3-clause-within
store_changed-requires-3-clause-within g c =
    let w = g.M.Look.shown.image c.height-on_right.new.space in
    let w1 = g.M.Look.shown.image c.store_changed.new.space in
    omega (
      arith,
      fork_within c.requires.fork.is c.requires.order,
      c.requires.sized,
      ap length c.store_changed-2.ensures.image,
      length-set w1 (c.args.top + 3) c.args.right,
      ap length c.store_changed.ensures.image,
      length-set w (c.args.top + 2) c.args.left,
      ap length c.height-on_right.ensures.looks.image,
      ap length c.height-on_left.ensures.looks.image,
    )

pub returns-clause-joined : goal.returns-clause-joined
returns-clause-joined g c b k v l r f =
    let w = g.M.Look.shown.image c.args.space.now in
    let top = c.args.top in
    let seen = c.height-on_right.ensures.looks.image ∙ c.height-on_left.ensures.looks.image in
    let left_is : c.height-on_left.result ≡ height l = c.height-on_left.ensures.is l (left_tree f) in
    let right_is : c.height-on_right.result ≡ height r = c.height-on_right.ensures.is r (subst (λ (x : List ℕ). IsTree c.args.order x c.args.right r) (sym c.height-on_left.ensures.looks.image) (right_tree f)) in
    let high = c.max.result + 1 in
    let stored = c.store_changed-3.ensures.image
    ∙ ap (λ (x : List ℕ). slice_set x (top + 4) high) (c.store_changed-2.ensures.image ∙ ap (λ (x : List ℕ). slice_set x (top + 3) c.args.right) (c.store_changed.ensures.image ∙ ap (λ (x : List ℕ). slice_set x (top + 2) c.args.left) seen)) in
    joined (g.M.Look.shown.image c.store_changed-3.new.space) high c.requires.order c.requires.sized f (omega (arith, c.max.ensures, left_is, right_is)) stored

pub returns-clause-as_long : goal.returns-clause-as_long
returns-clause-as_long g c =
    let w = g.M.Look.shown.image c.height-on_right.new.space in
    let w1 = g.M.Look.shown.image c.store_changed.new.space in
    let w2 = g.M.Look.shown.image c.store_changed-2.new.space in
    omega (
      arith,
      ap length c.store_changed-3.ensures.image,
      length-set w2 (c.args.top + 4) (c.max.result + 1),
      ap length c.store_changed-2.ensures.image,
      length-set w1 (c.args.top + 3) c.args.right,
      ap length c.store_changed.ensures.image,
      length-set w (c.args.top + 2) c.args.left,
      ap length c.height-on_right.ensures.looks.image,
      ap length c.height-on_left.ensures.looks.image,
    )
