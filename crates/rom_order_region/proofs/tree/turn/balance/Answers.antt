use Rattle.std.proofs.Common.{sym, ◌∙◌, arith, List, ℕ, subst}
use Rattle.rom_order_region.specs.Tree.{from_left, from_right}
use Rattle.rom_order_region.specs.declared.tree.turn.Side.TheVariants.{Left, Right}
use Rattle.rom_order_region.specs.Sides.{HasForkOn}
use Rattle.rom_order_region.specs.Nodes.{HasFork, HasTree}
use Rattle.rom_order_region.proofs.Balancing.{JoinedBy, HeightOf, TurnedBy, on_left, on_right, linked_high, balance_left, balance_right, balance_plain}
use Rattle.rom_order_region.proofs.Sides.{from_the_left, from_the_right, has_from_left, has_from_right}
use Rattle.rom_order_region.proofs.tree.turn.balance.Goals as goal

pub height-on_left-requires-clause-tree : goal.height-on_left-requires-clause-tree
height-on_left-requires-clause-tree g c = on_left c.requires.fork

pub height-on_right-requires-clause-tree : goal.height-on_right-requires-clause-tree
height-on_right-requires-clause-tree g c = subst (λ (x : List ℕ). HasTree c.args.order x c.args.right) (sym c.height-on_left.ensures.looks.image) (on_right c.requires.fork)

pub turn-requires-clause-fork : goal.turn-requires-clause-fork
turn-requires-clause-fork g c =
    subst (λ (x : List ℕ). HasForkOn c.args.order x Left c.args.top c.args.left c.args.right) (sym (c.height-on_right.ensures.looks.image ∙ c.height-on_left.ensures.looks.image)) (has_from_left c.requires.fork)

pub turn-requires-clause-some : goal.turn-requires-clause-some
turn-requires-clause-some g c = let t = on_left c.requires.fork in linked_high t.tree t.is c.height-on_left.ensures.is (omega arith)

pub turn-requires-then-on_right-on_left-clause-fork : goal.turn-requires-then-on_right-on_left-clause-fork
turn-requires-then-on_right-on_left-clause-fork g c =
    subst (λ (x : List ℕ). HasForkOn c.args.order x Right c.args.top c.args.right c.args.left) (sym (c.height-on_right.ensures.looks.image ∙ c.height-on_left.ensures.looks.image)) (has_from_right c.requires.fork)

pub turn-requires-then-on_right-on_left-clause-some : goal.turn-requires-then-on_right-on_left-clause-some
turn-requires-then-on_right-on_left-clause-some g c =
    let t = on_right c.requires.fork in
    linked_high t.tree t.is (subst (λ (x : List ℕ). HeightOf c.args.order x c.args.right c.height-on_right.result) c.height-on_left.ensures.looks.image c.height-on_right.ensures.is) (omega arith)

pub join-requires-clause-fork : goal.join-requires-clause-fork
join-requires-clause-fork g c =
    subst (λ (x : List ℕ). HasFork c.args.order x c.args.top c.args.left c.args.right) (sym (c.height-on_right.ensures.looks.image ∙ c.height-on_left.ensures.looks.image)) c.requires.fork

pub returns-then-on_left-on_right-clause-turned : goal.returns-then-on_left-on_right-clause-turned
returns-then-on_left-on_right-clause-turned g c =
    let one = c.height-on_left.ensures.looks.image in
    let seen = c.height-on_right.ensures.looks.image ∙ one in
    let right_high = subst (λ (x : List ℕ). HeightOf c.args.order x c.args.right c.height-on_right.result) one c.height-on_right.ensures.is in
    let turn = subst (λ (x : List ℕ). TurnedBy c.args.order c.args.top c.args.left c.args.right from_left x (g.M.Look.shown.image c.turn.new.space) c.turn.result) seen (λ b k v l r f. c.turn.ensures.turned b k v l r (from_the_left f)) in
    balance_left c.turn.result c.height-on_left.result c.height-on_right.result c.height-on_left.ensures.is right_high turn (omega arith)

pub returns-then-on_right-on_left-clause-turned : goal.returns-then-on_right-on_left-clause-turned
returns-then-on_right-on_left-clause-turned g c =
    let one = c.height-on_left.ensures.looks.image in
    let seen = c.height-on_right.ensures.looks.image ∙ one in
    let right_high = subst (λ (x : List ℕ). HeightOf c.args.order x c.args.right c.height-on_right.result) one c.height-on_right.ensures.is in
    let turn = subst (λ (x : List ℕ). TurnedBy c.args.order c.args.top c.args.left c.args.right from_right x (g.M.Look.shown.image c.turn-then-on_right-on_left.new.space) c.turn-then-on_right-on_left.result) seen (λ b k v l r f. c.turn-then-on_right-on_left.ensures.turned b k v r l (from_the_right f)) in
    balance_right c.turn-then-on_right-on_left.result c.height-on_left.result c.height-on_right.result c.height-on_left.ensures.is right_high turn (omega arith)

pub returns-clause-turned : goal.returns-clause-turned
returns-clause-turned g c =
    let one = c.height-on_left.ensures.looks.image in
    let seen = c.height-on_right.ensures.looks.image ∙ one in
    let right_high = subst (λ (x : List ℕ). HeightOf c.args.order x c.args.right c.height-on_right.result) one c.height-on_right.ensures.is in
    let join = subst (λ (x : List ℕ). JoinedBy c.args.order c.args.top c.args.left c.args.right x (g.M.Look.shown.image c.join.new.space)) seen c.join.ensures.joined in
    balance_plain c.args.top c.height-on_left.result c.height-on_right.result c.height-on_left.ensures.is right_high join (omega arith) (omega arith)
