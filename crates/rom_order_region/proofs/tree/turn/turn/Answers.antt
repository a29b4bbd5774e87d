use Rattle.std.proofs.Common.{◌≢◌, ◌<◌, ◌∙◌, List, ℕ, sym, subst, arith}
use Rattle.rom_order_region.specs.Nodes.{IsTree, HasTree}
use Rattle.rom_order_region.specs.Sides.{HasForkOn}
use Rattle.rom_order_region.proofs.Sides.{near_tree}
use Rattle.rom_order_region.proofs.Balancing.{HeightOf, linked_high}
use Rattle.rom_order_region.proofs.Turned.{SubtreesBy, JoinedOn, opened, single_one, single_two, single_done, double_one, double_two, double_three, double_done}
use Rattle.rom_order_region.proofs.tree.turn.turn.Goals as goal

pub subtrees_on-below-requires-clause-tree : goal.subtrees_on-below-requires-clause-tree
subtrees_on-below-requires-clause-tree g c =
    record { tree = c.requires.fork.on_near; is = near_tree c.requires.fork.is }

pub height-on_outer-requires-clause-tree : goal.height-on_outer-requires-clause-tree
height-on_outer-requires-clause-tree g c =
    let o = opened (near_tree c.requires.fork.is) c.requires.some c.subtrees_on-below.ensures.trees in
    subst (λ (x : List ℕ). HasTree c.args.order x c.subtrees_on-below.result.near) (sym c.subtrees_on-below.ensures.looks.image) record { tree = o.node.near; is = o.near_tree }

pub height-on_inner-requires-clause-tree : goal.height-on_inner-requires-clause-tree
height-on_inner-requires-clause-tree g c =
    let o = opened (near_tree c.requires.fork.is) c.requires.some c.subtrees_on-below.ensures.trees in
    subst (λ (x : List ℕ). HasTree c.args.order x c.subtrees_on-below.result.far) (sym (c.height-on_outer.ensures.looks.image ∙ c.subtrees_on-below.ensures.looks.image)) record { tree = o.node.far; is = o.far_tree }

pub join_on-requires-clause-fork : goal.join_on-requires-clause-fork
join_on-requires-clause-fork g c =
    let o = opened (near_tree c.requires.fork.is) c.requires.some c.subtrees_on-below.ensures.trees in
    subst (λ (x : List ℕ). HasForkOn c.args.order x c.args.side c.args.top c.subtrees_on-below.result.far c.args.far) (sym (c.height-on_inner.ensures.looks.image ∙ c.height-on_outer.ensures.looks.image ∙ c.subtrees_on-below.ensures.looks.image)) (single_one c.requires.fork.is o)

pub join_on-requires-then-on_inner-on_outer-clause-fork : goal.join_on-requires-then-on_inner-on_outer-clause-fork
join_on-requires-then-on_inner-on_outer-clause-fork g c =
    let o = opened (near_tree c.requires.fork.is) c.requires.some c.subtrees_on-below.ensures.trees in
    let first = subst (λ (x : List ℕ). JoinedOn c.args.order c.args.side c.args.top c.subtrees_on-below.result.far c.args.far x (g.M.Look.shown.image c.join_on.new.space)) (c.height-on_inner.ensures.looks.image ∙ c.height-on_outer.ensures.looks.image ∙ c.subtrees_on-below.ensures.looks.image) c.join_on.ensures.joined in
    single_two c.requires.fork.is o first

pub returns-then-on_inner-on_outer-clause-turned : goal.returns-then-on_inner-on_outer-clause-turned
returns-then-on_inner-on_outer-clause-turned g c b k v x y f =
    let o = opened (near_tree f) c.requires.some c.subtrees_on-below.ensures.trees in
    let outer_high = c.height-on_outer.ensures.is o.node.near (subst (λ (w : List ℕ). IsTree c.args.order w c.subtrees_on-below.result.near o.node.near) (sym c.subtrees_on-below.ensures.looks.image) o.near_tree) in
    let inner_high = c.height-on_inner.ensures.is o.node.far (subst (λ (w : List ℕ). IsTree c.args.order w c.subtrees_on-below.result.far o.node.far) (sym (c.height-on_outer.ensures.looks.image ∙ c.subtrees_on-below.ensures.looks.image)) o.far_tree) in
    let first = subst (λ (w : List ℕ). JoinedOn c.args.order c.args.side c.args.top c.subtrees_on-below.result.far c.args.far w (g.M.Look.shown.image c.join_on.new.space)) (c.height-on_inner.ensures.looks.image ∙ c.height-on_outer.ensures.looks.image ∙ c.subtrees_on-below.ensures.looks.image) c.join_on.ensures.joined in
    single_done f o first c.join_on-then-on_inner-on_outer.ensures.joined (omega (arith, outer_high, inner_high))

pub subtrees_on-middle-requires-clause-tree : goal.subtrees_on-middle-requires-clause-tree
subtrees_on-middle-requires-clause-tree g c =
    let o = opened (near_tree c.requires.fork.is) c.requires.some c.subtrees_on-below.ensures.trees in
    subst (λ (x : List ℕ). HasTree c.args.order x c.subtrees_on-below.result.far) (sym (c.height-on_inner.ensures.looks.image ∙ c.height-on_outer.ensures.looks.image ∙ c.subtrees_on-below.ensures.looks.image)) record { tree = o.node.far; is = o.far_tree }

pub subtrees_on-middle-requires-clause-some : goal.subtrees_on-middle-requires-clause-some
subtrees_on-middle-requires-clause-some g c =
    let o = opened (near_tree c.requires.fork.is) c.requires.some c.subtrees_on-below.ensures.trees in
    let high = subst (λ (x : List ℕ). HeightOf c.args.order x c.subtrees_on-below.result.far c.height-on_inner.result) (c.height-on_outer.ensures.looks.image ∙ c.subtrees_on-below.ensures.looks.image) c.height-on_inner.ensures.is in
    linked_high o.node.far o.far_tree high (omega arith)

pub join_on-requires-2-clause-fork : goal.join_on-requires-2-clause-fork
join_on-requires-2-clause-fork g c =
    let some : 0 < c.height-on_inner.result = omega arith in
    let o = opened (near_tree c.requires.fork.is) c.requires.some c.subtrees_on-below.ensures.trees in
    let deep : c.subtrees_on-below.result.far ≢ 0 = linked_high o.node.far o.far_tree (subst (λ (w : List ℕ). HeightOf c.args.order w c.subtrees_on-below.result.far c.height-on_inner.result) (c.height-on_outer.ensures.looks.image ∙ c.subtrees_on-below.ensures.looks.image) c.height-on_inner.ensures.is) some in
    let middle = subst (λ (w : List ℕ). SubtreesBy c.args.order w c.args.side c.subtrees_on-below.result.far c.subtrees_on-middle.result.near c.subtrees_on-middle.result.far) (c.height-on_inner.ensures.looks.image ∙ c.height-on_outer.ensures.looks.image ∙ c.subtrees_on-below.ensures.looks.image) c.subtrees_on-middle.ensures.trees in
    let p = opened o.far_tree deep middle in
    subst (λ (w : List ℕ). HasForkOn c.args.order w c.args.side c.args.near c.subtrees_on-below.result.near c.subtrees_on-middle.result.near) (sym (c.subtrees_on-middle.ensures.looks.image ∙ c.height-on_inner.ensures.looks.image ∙ c.height-on_outer.ensures.looks.image ∙ c.subtrees_on-below.ensures.looks.image)) (double_one c.requires.fork.is o p)

pub join_on-requires-3-clause-fork : goal.join_on-requires-3-clause-fork
join_on-requires-3-clause-fork g c =
    let some : 0 < c.height-on_inner.result = omega arith in
    let o = opened (near_tree c.requires.fork.is) c.requires.some c.subtrees_on-below.ensures.trees in
    let deep : c.subtrees_on-below.result.far ≢ 0 = linked_high o.node.far o.far_tree (subst (λ (w : List ℕ). HeightOf c.args.order w c.subtrees_on-below.result.far c.height-on_inner.result) (c.height-on_outer.ensures.looks.image ∙ c.subtrees_on-below.ensures.looks.image) c.height-on_inner.ensures.is) some in
    let middle = subst (λ (w : List ℕ). SubtreesBy c.args.order w c.args.side c.subtrees_on-below.result.far c.subtrees_on-middle.result.near c.subtrees_on-middle.result.far) (c.height-on_inner.ensures.looks.image ∙ c.height-on_outer.ensures.looks.image ∙ c.subtrees_on-below.ensures.looks.image) c.subtrees_on-middle.ensures.trees in
    let p = opened o.far_tree deep middle in
    let first = subst (λ (w : List ℕ). JoinedOn c.args.order c.args.side c.args.near c.subtrees_on-below.result.near c.subtrees_on-middle.result.near w (g.M.Look.shown.image c.join_on-2.new.space)) (c.subtrees_on-middle.ensures.looks.image ∙ c.height-on_inner.ensures.looks.image ∙ c.height-on_outer.ensures.looks.image ∙ c.subtrees_on-below.ensures.looks.image) c.join_on-2.ensures.joined in
    double_two c.requires.fork.is o p first

pub join_on-requires-4-clause-fork : goal.join_on-requires-4-clause-fork
join_on-requires-4-clause-fork g c =
    let some : 0 < c.height-on_inner.result = omega arith in
    let o = opened (near_tree c.requires.fork.is) c.requires.some c.subtrees_on-below.ensures.trees in
    let deep : c.subtrees_on-below.result.far ≢ 0 = linked_high o.node.far o.far_tree (subst (λ (w : List ℕ). HeightOf c.args.order w c.subtrees_on-below.result.far c.height-on_inner.result) (c.height-on_outer.ensures.looks.image ∙ c.subtrees_on-below.ensures.looks.image) c.height-on_inner.ensures.is) some in
    let middle = subst (λ (w : List ℕ). SubtreesBy c.args.order w c.args.side c.subtrees_on-below.result.far c.subtrees_on-middle.result.near c.subtrees_on-middle.result.far) (c.height-on_inner.ensures.looks.image ∙ c.height-on_outer.ensures.looks.image ∙ c.subtrees_on-below.ensures.looks.image) c.subtrees_on-middle.ensures.trees in
    let p = opened o.far_tree deep middle in
    let first = subst (λ (w : List ℕ). JoinedOn c.args.order c.args.side c.args.near c.subtrees_on-below.result.near c.subtrees_on-middle.result.near w (g.M.Look.shown.image c.join_on-2.new.space)) (c.subtrees_on-middle.ensures.looks.image ∙ c.height-on_inner.ensures.looks.image ∙ c.height-on_outer.ensures.looks.image ∙ c.subtrees_on-below.ensures.looks.image) c.join_on-2.ensures.joined in
    double_three c.requires.fork.is o p first c.join_on-3.ensures.joined

pub returns-clause-turned : goal.returns-clause-turned
returns-clause-turned g c b k v x y f =
    let some : 0 < c.height-on_inner.result = omega arith in
    let o = opened (near_tree f) c.requires.some c.subtrees_on-below.ensures.trees in
    let outer_high = c.height-on_outer.ensures.is o.node.near (subst (λ (w : List ℕ). IsTree c.args.order w c.subtrees_on-below.result.near o.node.near) (sym c.subtrees_on-below.ensures.looks.image) o.near_tree) in
    let inner_high = c.height-on_inner.ensures.is o.node.far (subst (λ (w : List ℕ). IsTree c.args.order w c.subtrees_on-below.result.far o.node.far) (sym (c.height-on_outer.ensures.looks.image ∙ c.subtrees_on-below.ensures.looks.image)) o.far_tree) in
    let deep : c.subtrees_on-below.result.far ≢ 0 = linked_high o.node.far o.far_tree (subst (λ (w : List ℕ). HeightOf c.args.order w c.subtrees_on-below.result.far c.height-on_inner.result) (c.height-on_outer.ensures.looks.image ∙ c.subtrees_on-below.ensures.looks.image) c.height-on_inner.ensures.is) some in
    let middle = subst (λ (w : List ℕ). SubtreesBy c.args.order w c.args.side c.subtrees_on-below.result.far c.subtrees_on-middle.result.near c.subtrees_on-middle.result.far) (c.height-on_inner.ensures.looks.image ∙ c.height-on_outer.ensures.looks.image ∙ c.subtrees_on-below.ensures.looks.image) c.subtrees_on-middle.ensures.trees in
    let p = opened o.far_tree deep middle in
    let first = subst (λ (w : List ℕ). JoinedOn c.args.order c.args.side c.args.near c.subtrees_on-below.result.near c.subtrees_on-middle.result.near w (g.M.Look.shown.image c.join_on-2.new.space)) (c.subtrees_on-middle.ensures.looks.image ∙ c.height-on_inner.ensures.looks.image ∙ c.height-on_outer.ensures.looks.image ∙ c.subtrees_on-below.ensures.looks.image) c.join_on-2.ensures.joined in
    double_done f o p first c.join_on-3.ensures.joined c.join_on-4.ensures.joined (omega (arith, outer_high, inner_high))
