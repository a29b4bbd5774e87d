use Rattle.std.proofs.Common.{◌*◌, ap, sym, ◌∙◌, arith, length, List, ℕ, subst}
use Rattle.rom_order_region.specs.Nodes.{level_at}
use Rattle.rom_order_region.specs.Attach.{MayAttach}
use Rattle.rom_order_region.proofs.Room.{looks_stores, stores_then, room_after}
use Rattle.rom_order_region.proofs.Attaching.{AttachedBy, may_tree, level_left, level_right, attach_left, attach_right, attach_left_fork, attach_right_fork, attach_left_done, attach_right_done}
use Rattle.rom_order_region.proofs.tree.insert.+attach.Goals as goal

pub read_branch-there-requires-clause-tree : goal.read_branch-there-requires-clause-tree
read_branch-there-requires-clause-tree g t c = may_tree c.requires.may

pub attach-left-requires : goal.attach-left-requires
attach-left-requires g t c κs h =
    let there = c.read_branch-there in
    let w = g.M.Look.shown.image c.args.space.now in
    let same = there.ensures.looks.image in
    let low = level_left w (g.M.Look.shown.image there.new.space) there.result.left c.if-top-eq0.false (may_tree c.requires.may) same there.ensures.left in
    let may = subst (λ (x : List ℕ). MayAttach c.args.order x there.result.left c.args.node c.args.key) (sym same) (attach_left c.if-top-eq0.false there.ensures.key there.ensures.left there.ensures.right c.requires.may) in (
      omega (arith, c.decreases, low),
      (
        h,
        (
          c.requires.order,
          (
            ap length same ∙ c.requires.sized,
            (
              may,
              room_after (9 * level_at (g.M.Look.shown.image there.new.space) there.result.left) g.met.M.Look.limit_counts (omega (arith, low)) c.requires.room (looks_stores there.ensures.looks),
            ),
          ),
        ),
      ),
    )

pub attach-right-requires : goal.attach-right-requires
attach-right-requires g t c κs h =
    let there = c.read_branch-there in
    let w = g.M.Look.shown.image c.args.space.now in
    let same = there.ensures.looks.image in
    let low = level_right w (g.M.Look.shown.image there.new.space) there.result.right c.if-top-eq0.false (may_tree c.requires.may) same there.ensures.right in
    let may = subst (λ (x : List ℕ). MayAttach c.args.order x there.result.right c.args.node c.args.key) (sym same) (attach_right c.if-top-eq0.false there.ensures.key there.ensures.left there.ensures.right c.requires.may) in (
      omega (arith, c.decreases, low),
      (
        h,
        (
          c.requires.order,
          (
            ap length same ∙ c.requires.sized,
            (
              may,
              room_after (9 * level_at (g.M.Look.shown.image there.new.space) there.result.right) g.met.M.Look.limit_counts (omega (arith, low)) c.requires.room (looks_stores there.ensures.looks),
            ),
          ),
        ),
      ),
    )

pub balance-requires-clause-fork : goal.balance-requires-clause-fork
balance-requires-clause-fork g t c =
    let there = c.read_branch-there in
    let one = subst (λ (x : List ℕ). AttachedBy c.args.order there.result.left c.args.node c.args.key x (g.M.Look.shown.image c.attach-left.new.space) c.attach-left.result) there.ensures.looks.image c.attach-left.ensures.attached in
    attach_left_fork c.if-top-eq0.false there.ensures.key there.ensures.left there.ensures.right c.requires.may one

pub balance-requires-else-key-there-clause-fork : goal.balance-requires-else-key-there-clause-fork
balance-requires-else-key-there-clause-fork g t c =
    let there = c.read_branch-there in
    let one = subst (λ (x : List ℕ). AttachedBy c.args.order there.result.right c.args.node c.args.key x (g.M.Look.shown.image c.attach-right.new.space) c.attach-right.result) there.ensures.looks.image c.attach-right.ensures.attached in
    attach_right_fork c.if-top-eq0.false there.ensures.key there.ensures.left there.ensures.right c.requires.may one

pub balance-requires-clause-room : goal.balance-requires-clause-room
balance-requires-clause-room g t c =
    let there = c.read_branch-there in
    let low = level_left (g.M.Look.shown.image c.args.space.now) (g.M.Look.shown.image there.new.space) there.result.left c.if-top-eq0.false (may_tree c.requires.may) there.ensures.looks.image there.ensures.left in
    room_after 9 g.met.M.Look.limit_counts (omega (arith, low)) c.requires.room (stores_then (9 * level_at (g.M.Look.shown.image there.new.space) there.result.left) (omega arith) (looks_stores there.ensures.looks) c.attach-left.ensures.stores)

pub balance-requires-else-key-there-clause-room : goal.balance-requires-else-key-there-clause-room
balance-requires-else-key-there-clause-room g t c =
    let there = c.read_branch-there in
    let low = level_right (g.M.Look.shown.image c.args.space.now) (g.M.Look.shown.image there.new.space) there.result.right c.if-top-eq0.false (may_tree c.requires.may) there.ensures.looks.image there.ensures.right in
    room_after 9 g.met.M.Look.limit_counts (omega (arith, low)) c.requires.room (stores_then (9 * level_at (g.M.Look.shown.image there.new.space) there.result.right) (omega arith) (looks_stores there.ensures.looks) c.attach-right.ensures.stores)

pub returns-then-key-there-clause-attached : goal.returns-then-key-there-clause-attached
returns-then-key-there-clause-attached g t c =
    let there = c.read_branch-there in
    let one = subst (λ (x : List ℕ). AttachedBy c.args.order there.result.left c.args.node c.args.key x (g.M.Look.shown.image c.attach-left.new.space) c.attach-left.result) there.ensures.looks.image c.attach-left.ensures.attached in
    attach_left_done c.if-top-eq0.false there.ensures.key there.ensures.left there.ensures.right c.attach-left.result c.balance.result c.if-key-there.true one c.balance.ensures.turned

pub returns-then-key-there-clause-stores : goal.returns-then-key-there-clause-stores
returns-then-key-there-clause-stores g t c =
    let there = c.read_branch-there in
    let low = level_left (g.M.Look.shown.image c.args.space.now) (g.M.Look.shown.image there.new.space) there.result.left c.if-top-eq0.false (may_tree c.requires.may) there.ensures.looks.image there.ensures.left in
    let one = stores_then (9 * level_at (g.M.Look.shown.image there.new.space) there.result.left) (omega arith) (looks_stores there.ensures.looks) c.attach-left.ensures.stores in
    stores_then (9 * level_at (g.M.Look.shown.image c.args.space.now) c.args.top) (omega (arith, low)) one c.balance.ensures.stores

pub returns-else-key-there-clause-attached : goal.returns-else-key-there-clause-attached
returns-else-key-there-clause-attached g t c =
    let there = c.read_branch-there in
    let one = subst (λ (x : List ℕ). AttachedBy c.args.order there.result.right c.args.node c.args.key x (g.M.Look.shown.image c.attach-right.new.space) c.attach-right.result) there.ensures.looks.image c.attach-right.ensures.attached in
    attach_right_done c.if-top-eq0.false there.ensures.key there.ensures.left there.ensures.right c.attach-right.result c.balance-else-key-there.result c.if-key-there.false one c.balance-else-key-there.ensures.turned

pub returns-else-key-there-clause-stores : goal.returns-else-key-there-clause-stores
returns-else-key-there-clause-stores g t c =
    let there = c.read_branch-there in
    let low = level_right (g.M.Look.shown.image c.args.space.now) (g.M.Look.shown.image there.new.space) there.result.right c.if-top-eq0.false (may_tree c.requires.may) there.ensures.looks.image there.ensures.right in
    let one = stores_then (9 * level_at (g.M.Look.shown.image there.new.space) there.result.right) (omega arith) (looks_stores there.ensures.looks) c.attach-right.ensures.stores in
    stores_then (9 * level_at (g.M.Look.shown.image c.args.space.now) c.args.top) (omega (arith, low)) one c.balance-else-key-there.ensures.stores
