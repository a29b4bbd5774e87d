use Rattle.std.proofs.Common.{subst, sym, [], ◌∷◌}
use Rattle.rom_order_region.specs.declared.tree.turn.Side.{Side}
use Rattle.rom_order_region.specs.Nodes.{BuildsTree}
use Rattle.rom_order_region.specs.Sides.{over, IsForkOn, HasForkOn}
use Rattle.rom_order_region.proofs.Sides.{on_the_left, on_the_right, has_on_left, has_on_right}
use Rattle.rom_order_region.proofs.tree.turn.join_on.Goals as goal

pub join-requires-clause-fork : goal.join-requires-clause-fork
join-requires-clause-fork g c = has_on_left (subst (λ (s : Side). HasForkOn c.args.order (g.M.Look.shown.image c.args.space.now) s c.args.top c.args.near c.args.far) c.in-Left.is c.requires.fork)

pub join-requires-in-Right-clause-fork : goal.join-requires-in-Right-clause-fork
join-requires-in-Right-clause-fork g c = has_on_right (subst (λ (s : Side). HasForkOn c.args.order (g.M.Look.shown.image c.args.space.now) s c.args.top c.args.near c.args.far) c.in-Right.is c.requires.fork)

pub returns-in-Left-clause-joined : goal.returns-in-Left-clause-joined
returns-in-Left-clause-joined g c b k v x y f =
    let w = g.M.Look.shown.image c.args.space.now in
    let here = subst (λ (s : Side). IsForkOn c.args.order w s c.args.top c.args.near c.args.far b k v x y) c.in-Left.is f in
    subst (λ (s : Side). BuildsTree c.args.order (b ∷ []) w (g.M.Look.shown.image c.join.new.space) (over s b k v x y)) (sym c.in-Left.is) (c.join.ensures.joined b k v x y (on_the_left here))

pub returns-in-Right-clause-joined : goal.returns-in-Right-clause-joined
returns-in-Right-clause-joined g c b k v x y f =
    let w = g.M.Look.shown.image c.args.space.now in
    let here = subst (λ (s : Side). IsForkOn c.args.order w s c.args.top c.args.near c.args.far b k v x y) c.in-Right.is f in
    subst (λ (s : Side). BuildsTree c.args.order (b ∷ []) w (g.M.Look.shown.image c.join-in-Right.new.space) (over s b k v x y)) (sym c.in-Right.is) (c.join-in-Right.ensures.joined b k v y x (on_the_right here))
