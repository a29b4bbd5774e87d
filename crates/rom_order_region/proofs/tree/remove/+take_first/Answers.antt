use Rattle.std.proofs.Common.{◌*◌, ap, sym, ◌∙◌, arith, length, List, ℕ, subst}
use Rattle.rom_order_region.specs.Nodes.{HasTree, level_at}
use Rattle.rom_order_region.proofs.Room.{looks_stores, stores_then, stores_more, room_after}
use Rattle.rom_order_region.proofs.Attaching.{level_left}
use Rattle.rom_order_region.proofs.Detaching.{FirstBy, detach_left_tree, first_here, first_fork, first_done}
use Rattle.rom_order_region.proofs.tree.remove.+take_first.Goals as goal

pub returns-then-there-eq0-clause-first : goal.returns-then-there-eq0-clause-first
returns-then-there-eq0-clause-first g t c =
    let there = c.read_branch-there in
    first_here c.if-there-eq0.true there.ensures.looks.image there.ensures.left there.ensures.right

pub returns-then-there-eq0-clause-stores : goal.returns-then-there-eq0-clause-stores
returns-then-there-eq0-clause-stores g t c = stores_more (9 * level_at (g.M.Look.shown.image c.args.space.now) c.args.top) (omega arith) (looks_stores c.read_branch-there.ensures.looks)

pub take_first-first-requires : goal.take_first-first-requires
take_first-first-requires g t c κs h =
    let there = c.read_branch-there in
    let w = g.M.Look.shown.image c.args.space.now in
    let same = there.ensures.looks.image in
    let low = level_left w (g.M.Look.shown.image there.new.space) there.result.left c.requires.some c.requires.tree same there.ensures.left in
    let tree = subst (λ (x : List ℕ). HasTree c.args.order x there.result.left) (sym same) (detach_left_tree c.requires.some there.ensures.key there.ensures.left there.ensures.right c.requires.tree) in (
      omega (arith, c.decreases, low),
      (
        h,
        (
          c.requires.order,
          (
            ap length same ∙ c.requires.sized,
            (
              tree,
              (
                c.if-there-eq0.false,
                room_after (9 * level_at (g.M.Look.shown.image there.new.space) there.result.left) g.met.M.Look.limit_counts (omega (arith, low)) c.requires.room (looks_stores there.ensures.looks),
              ),
            ),
          ),
        ),
      ),
    )

pub balance-rest-requires-clause-fork : goal.balance-rest-requires-clause-fork
balance-rest-requires-clause-fork g t c =
    let there = c.read_branch-there in
    let one = subst (λ (x : List ℕ). FirstBy c.args.order there.result.left x (g.M.Look.shown.image c.take_first-first.new.space) c.take_first-first.result) there.ensures.looks.image c.take_first-first.ensures.first in
    first_fork c.if-there-eq0.false there.ensures.left there.ensures.right c.requires.some c.requires.tree one

pub balance-rest-requires-clause-room : goal.balance-rest-requires-clause-room
balance-rest-requires-clause-room g t c =
    let there = c.read_branch-there in
    let low = level_left (g.M.Look.shown.image c.args.space.now) (g.M.Look.shown.image there.new.space) there.result.left c.requires.some c.requires.tree there.ensures.looks.image there.ensures.left in
    room_after 9 g.met.M.Look.limit_counts (omega (arith, low)) c.requires.room (stores_then (9 * level_at (g.M.Look.shown.image there.new.space) there.result.left) (omega arith) (looks_stores there.ensures.looks) c.take_first-first.ensures.stores)

pub returns-clause-first : goal.returns-clause-first
returns-clause-first g t c =
    let there = c.read_branch-there in
    let one = subst (λ (x : List ℕ). FirstBy c.args.order there.result.left x (g.M.Look.shown.image c.take_first-first.new.space) c.take_first-first.result) there.ensures.looks.image c.take_first-first.ensures.first in
    first_done c.if-there-eq0.false there.ensures.left there.ensures.right c.balance-rest.result one c.balance-rest.ensures.turned

pub returns-clause-stores : goal.returns-clause-stores
returns-clause-stores g t c =
    let there = c.read_branch-there in
    let low = level_left (g.M.Look.shown.image c.args.space.now) (g.M.Look.shown.image there.new.space) there.result.left c.requires.some c.requires.tree there.ensures.looks.image there.ensures.left in
    let one = stores_then (9 * level_at (g.M.Look.shown.image there.new.space) there.result.left) (omega arith) (looks_stores there.ensures.looks) c.take_first-first.ensures.stores in
    stores_then (9 * level_at (g.M.Look.shown.image c.args.space.now) c.args.top) (omega (arith, low)) one c.balance-rest.ensures.stores
