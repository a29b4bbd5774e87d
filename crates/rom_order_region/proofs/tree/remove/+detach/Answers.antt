use Rattle.std.proofs.Common.{◌+◌, ◌*◌, ap, sym, ◌∙◌, arith, length, List, ℕ, subst, refl}
use Rattle.rom_order_region.specs.Nodes.{HasTree, level_at}
use Rattle.rom_order_region.specs.Detach.{HasPair}
use Rattle.rom_order_region.proofs.Room.{looks_stores, stores_then, room_after}
use Rattle.rom_order_region.proofs.Attaching.{level_left, level_right}
use Rattle.rom_order_region.proofs.Detaching.{DetachedBy, MergedBy, detach_empty, detach_left_tree, detach_right_tree, detach_left_fork, detach_right_fork, detach_left_done, detach_right_done, detach_pair, detach_here_done}
use Rattle.rom_order_region.proofs.tree.remove.+detach.Goals as goal

pub returns-then-top-eq0-clause-detached : goal.returns-then-top-eq0-clause-detached
returns-then-top-eq0-clause-detached g t c = detach_empty c.args.key c.if-top-eq0.true refl

pub returns-then-top-eq0-clause-stores : goal.returns-then-top-eq0-clause-stores
returns-then-top-eq0-clause-stores g t c = record { loads_later = λ told. omega arith; stores_later = λ told. omega arith; most_stores = λ told. omega arith; limit = refl; rest = refl }

pub detach-left-requires : goal.detach-left-requires
detach-left-requires g t c κs h =
    let there = c.read_branch-there in
    let w = g.M.Look.shown.image c.args.space.now in
    let same = there.ensures.looks.image in
    let low = level_left w (g.M.Look.shown.image there.new.space) there.result.left c.if-top-eq0.false c.requires.tree same there.ensures.left in
    let tree = subst (λ (x : List ℕ). HasTree c.args.order x there.result.left) (sym same) (detach_left_tree c.if-top-eq0.false there.ensures.key there.ensures.left there.ensures.right c.requires.tree) in (
      omega (arith, c.decreases, low),
      (
        h,
        (
          c.requires.order,
          (
            ap length same ∙ c.requires.sized,
            (
              tree,
              room_after (9 * level_at (g.M.Look.shown.image there.new.space) there.result.left) g.met.M.Look.limit_counts (omega (arith, low)) c.requires.room (looks_stores there.ensures.looks),
            ),
          ),
        ),
      ),
    )

pub balance-requires-clause-fork : goal.balance-requires-clause-fork
balance-requires-clause-fork g t c =
    let there = c.read_branch-there in
    let one = subst (λ (x : List ℕ). DetachedBy c.args.order there.result.left c.args.key x (g.M.Look.shown.image c.detach-left.new.space) c.detach-left.result) there.ensures.looks.image c.detach-left.ensures.detached in
    detach_left_fork c.if-top-eq0.false there.ensures.key there.ensures.left there.ensures.right c.args.key c.requires.tree one

pub balance-requires-clause-room : goal.balance-requires-clause-room
balance-requires-clause-room g t c =
    let there = c.read_branch-there in
    let low = level_left (g.M.Look.shown.image c.args.space.now) (g.M.Look.shown.image there.new.space) there.result.left c.if-top-eq0.false c.requires.tree there.ensures.looks.image there.ensures.left in
    room_after 9 g.met.M.Look.limit_counts (omega (arith, low)) c.requires.room (stores_then (9 * level_at (g.M.Look.shown.image there.new.space) there.result.left) (omega arith) (looks_stores there.ensures.looks) c.detach-left.ensures.stores)

pub returns-then-key-there-clause-detached : goal.returns-then-key-there-clause-detached
returns-then-key-there-clause-detached g t c =
    let there = c.read_branch-there in
    let one = subst (λ (x : List ℕ). DetachedBy c.args.order there.result.left c.args.key x (g.M.Look.shown.image c.detach-left.new.space) c.detach-left.result) there.ensures.looks.image c.detach-left.ensures.detached in
    detach_left_done c.if-top-eq0.false there.ensures.key there.ensures.left there.ensures.right c.args.key c.detach-left.result c.balance.result c.if-key-there.true one c.balance.ensures.turned

pub returns-then-key-there-clause-stores : goal.returns-then-key-there-clause-stores
returns-then-key-there-clause-stores g t c =
    let there = c.read_branch-there in
    let low = level_left (g.M.Look.shown.image c.args.space.now) (g.M.Look.shown.image there.new.space) there.result.left c.if-top-eq0.false c.requires.tree there.ensures.looks.image there.ensures.left in
    let one = stores_then (9 * level_at (g.M.Look.shown.image there.new.space) there.result.left) (omega arith) (looks_stores there.ensures.looks) c.detach-left.ensures.stores in
    stores_then (9 * level_at (g.M.Look.shown.image c.args.space.now) c.args.top) (omega (arith, low)) one c.balance.ensures.stores

pub detach-right-requires : goal.detach-right-requires
detach-right-requires g t c κs h =
    let there = c.read_branch-there in
    let w = g.M.Look.shown.image c.args.space.now in
    let same = there.ensures.looks.image in
    let low = level_right w (g.M.Look.shown.image there.new.space) there.result.right c.if-top-eq0.false c.requires.tree same there.ensures.right in
    let tree = subst (λ (x : List ℕ). HasTree c.args.order x there.result.right) (sym same) (detach_right_tree c.if-top-eq0.false there.ensures.key there.ensures.left there.ensures.right c.requires.tree) in (
      omega (arith, c.decreases, low),
      (
        h,
        (
          c.requires.order,
          (
            ap length same ∙ c.requires.sized,
            (
              tree,
              room_after (9 * level_at (g.M.Look.shown.image there.new.space) there.result.right) g.met.M.Look.limit_counts (omega (arith, low)) c.requires.room (looks_stores there.ensures.looks),
            ),
          ),
        ),
      ),
    )

pub balance-requires-then-there-key-clause-fork : goal.balance-requires-then-there-key-clause-fork
balance-requires-then-there-key-clause-fork g t c =
    let there = c.read_branch-there in
    let one = subst (λ (x : List ℕ). DetachedBy c.args.order there.result.right c.args.key x (g.M.Look.shown.image c.detach-right.new.space) c.detach-right.result) there.ensures.looks.image c.detach-right.ensures.detached in
    detach_right_fork c.if-top-eq0.false there.ensures.key there.ensures.left there.ensures.right c.args.key c.requires.tree one

pub balance-requires-then-there-key-clause-room : goal.balance-requires-then-there-key-clause-room
balance-requires-then-there-key-clause-room g t c =
    let there = c.read_branch-there in
    let low = level_right (g.M.Look.shown.image c.args.space.now) (g.M.Look.shown.image there.new.space) there.result.right c.if-top-eq0.false c.requires.tree there.ensures.looks.image there.ensures.right in
    room_after 9 g.met.M.Look.limit_counts (omega (arith, low)) c.requires.room (stores_then (9 * level_at (g.M.Look.shown.image there.new.space) there.result.right) (omega arith) (looks_stores there.ensures.looks) c.detach-right.ensures.stores)

pub returns-then-there-key-clause-detached : goal.returns-then-there-key-clause-detached
returns-then-there-key-clause-detached g t c =
    let there = c.read_branch-there in
    let one = subst (λ (x : List ℕ). DetachedBy c.args.order there.result.right c.args.key x (g.M.Look.shown.image c.detach-right.new.space) c.detach-right.result) there.ensures.looks.image c.detach-right.ensures.detached in
    detach_right_done c.if-top-eq0.false there.ensures.key there.ensures.left there.ensures.right c.args.key c.detach-right.result c.balance-then-there-key.result c.if-there-key.true one c.balance-then-there-key.ensures.turned

pub returns-then-there-key-clause-stores : goal.returns-then-there-key-clause-stores
returns-then-there-key-clause-stores g t c =
    let there = c.read_branch-there in
    let low = level_right (g.M.Look.shown.image c.args.space.now) (g.M.Look.shown.image there.new.space) there.result.right c.if-top-eq0.false c.requires.tree there.ensures.looks.image there.ensures.right in
    let one = stores_then (9 * level_at (g.M.Look.shown.image there.new.space) there.result.right) (omega arith) (looks_stores there.ensures.looks) c.detach-right.ensures.stores in
    stores_then (9 * level_at (g.M.Look.shown.image c.args.space.now) c.args.top) (omega (arith, low)) one c.balance-then-there-key.ensures.stores

pub read_branch-there-requires-clause-tree : goal.read_branch-there-requires-clause-tree
read_branch-there-requires-clause-tree g t c = c.requires.tree

pub merge-requires-clause-pair : goal.merge-requires-clause-pair
merge-requires-clause-pair g t c =
    let there = c.read_branch-there in
    subst (λ (x : List ℕ). HasPair c.args.order x there.result.left there.result.right) (sym there.ensures.looks.image)
    (detach_pair c.if-top-eq0.false there.ensures.key there.ensures.left there.ensures.right c.args.key c.requires.tree)

pub merge-requires-clause-room : goal.merge-requires-clause-room
merge-requires-clause-room g t c =
    let there = c.read_branch-there in
    let low = level_right (g.M.Look.shown.image c.args.space.now) (g.M.Look.shown.image there.new.space) there.result.right c.if-top-eq0.false c.requires.tree there.ensures.looks.image there.ensures.right in
    room_after (9 * level_at (g.M.Look.shown.image there.new.space) there.result.right + 9) g.met.M.Look.limit_counts (omega (arith, low)) c.requires.room (looks_stores there.ensures.looks)

pub returns-clause-detached : goal.returns-clause-detached
returns-clause-detached g t c =
    let there = c.read_branch-there in
    let one = subst (λ (x : List ℕ). MergedBy c.args.order there.result.left there.result.right x (g.M.Look.shown.image c.merge.new.space) c.merge.result) there.ensures.looks.image c.merge.ensures.merged in
    detach_here_done c.if-top-eq0.false there.ensures.key there.ensures.left there.ensures.right c.args.key c.merge.result (omega arith) (omega arith) one

pub returns-clause-stores : goal.returns-clause-stores
returns-clause-stores g t c =
    let there = c.read_branch-there in
    let low = level_right (g.M.Look.shown.image c.args.space.now) (g.M.Look.shown.image there.new.space) there.result.right c.if-top-eq0.false c.requires.tree there.ensures.looks.image there.ensures.right in
    stores_then (9 * level_at (g.M.Look.shown.image c.args.space.now) c.args.top) (omega (arith, low)) (looks_stores there.ensures.looks) c.merge.ensures.stores
