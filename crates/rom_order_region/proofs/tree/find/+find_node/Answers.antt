use Rattle.std.proofs.Common.{◌+◌, ◌-◌, ◌*◌, ap, sym, ◌∙◌, arith, length, List, ℕ, subst, refl}
use Rattle.rom_model.proofs.Looks.{looks_then}
use Rattle.rom_order_region.specs.Nodes.{HasTree, level_at}
use Rattle.rom_order_region.proofs.Frame.{some_within, some_small, read}
use Rattle.rom_order_region.proofs.Attaching.{level_left, level_right}
use Rattle.rom_order_region.proofs.Detaching.{detach_left_tree, detach_right_tree}
use Rattle.rom_order_region.proofs.Finding.{FoundBy, found_empty, found_here, found_left, found_right, level_some, looks_loaded}
use Rattle.rom_order_region.proofs.tree.find.+find_node.Goals as goal

pub returns-then-top-eq0-clause-found : goal.returns-then-top-eq0-clause-found
returns-then-top-eq0-clause-found g t c = found_empty (g.M.Look.shown.image c.args.space.now) c.args.key c.if-top-eq0.true

pub load-there-requires : goal.load-there-requires
load-there-requires g t c = record { within = omega (arith, some_within c.args.top c.requires.order c.requires.tree refl c.if-top-eq0.false, c.requires.sized) }

pub returns-then-there-key-clause-found : goal.returns-then-there-key-clause-found
returns-then-there-key-clause-found g t c = found_here (g.M.Look.shown.image c.args.space.now) c.args.key c.if-top-eq0.false c.load-there.ensures.word c.if-there-key.true

pub returns-then-there-key-clause-within : goal.returns-then-there-key-clause-within
returns-then-there-key-clause-within g t c = λ _. omega (arith, some_within c.args.top c.requires.order c.requires.tree refl c.if-top-eq0.false, c.requires.sized)

pub returns-then-there-key-clause-looks : goal.returns-then-there-key-clause-looks
returns-then-there-key-clause-looks g t c =
    looks_loaded (2 * level_at (g.M.Look.shown.image c.args.space.now) c.args.top) (omega (arith, level_some (g.M.Look.shown.image c.args.space.now) c.if-top-eq0.false c.requires.tree)) c.load-there.ensures.image c.load-there.ensures.counts

pub returns-then-there-key-clause-soon : goal.returns-then-there-key-clause-soon
returns-then-there-key-clause-soon g t c = λ _.
    looks_loaded (2 * level_at (g.M.Look.shown.image c.args.space.now) c.args.top - 1) (omega (arith, level_some (g.M.Look.shown.image c.args.space.now) c.if-top-eq0.false c.requires.tree)) c.load-there.ensures.image c.load-there.ensures.counts

pub overflow_add-top : goal.overflow_add-top
overflow_add-top g t c = omega (arith, some_small c.args.top c.requires.order c.requires.tree refl c.if-top-eq0.false)

pub overflow_add-top-2 : goal.overflow_add-top-2
overflow_add-top-2 g t c = omega (arith, some_small c.args.top c.requires.order c.requires.tree refl c.if-top-eq0.false)

pub load-left-requires : goal.load-left-requires
load-left-requires g t c = record { within = omega (arith, some_within c.args.top c.requires.order c.requires.tree refl c.if-top-eq0.false, c.requires.sized, ap length c.load-there.ensures.image) }

pub load-right-requires : goal.load-right-requires
load-right-requires g t c = record { within = omega (arith, some_within c.args.top c.requires.order c.requires.tree refl c.if-top-eq0.false, c.requires.sized, ap length c.load-there.ensures.image) }

pub find_node-requires : goal.find_node-requires
find_node-requires g t c κs h =
    let w = g.M.Look.shown.image c.args.space.now in
    let same = c.load-left.ensures.image ∙ c.load-there.ensures.image in
    let link = read w (g.M.Look.shown.image c.load-there.new.self) (c.args.top + 2) c.load-left.result c.load-left.ensures.word c.load-there.ensures.image in
    let low = level_left w (g.M.Look.shown.image c.load-left.new.self) c.load-left.result c.if-top-eq0.false c.requires.tree same link in
    let tree = detach_left_tree c.if-top-eq0.false c.load-there.ensures.word link refl c.requires.tree in
    (omega (arith, c.decreases, low), (h, (c.requires.order, (ap length same ∙ c.requires.sized, subst (λ (x : List ℕ). HasTree c.args.order x c.load-left.result) (sym same) tree))))

pub returns-then-key-there-clause-found : goal.returns-then-key-there-clause-found
returns-then-key-there-clause-found g t c =
    let w = g.M.Look.shown.image c.args.space.now in
    let same = c.load-left.ensures.image ∙ c.load-there.ensures.image in
    let link = read w (g.M.Look.shown.image c.load-there.new.self) (c.args.top + 2) c.load-left.result c.load-left.ensures.word c.load-there.ensures.image in
    let found = subst (λ (x : List ℕ). FoundBy c.args.order x c.load-left.result c.args.key c.find_node.result) same c.find_node.ensures.found in
    found_left w c.args.key c.if-top-eq0.false c.load-there.ensures.word c.load-left.result c.find_node.result link c.if-key-there.true found

pub returns-then-key-there-clause-within : goal.returns-then-key-there-clause-within
returns-then-key-there-clause-within g t c = λ some. omega (arith, c.find_node.ensures.within some, ap length c.load-left.ensures.image, ap length c.load-there.ensures.image)

pub returns-then-key-there-clause-looks : goal.returns-then-key-there-clause-looks
returns-then-key-there-clause-looks g t c =
    let w = g.M.Look.shown.image c.args.space.now in
    let same = c.load-left.ensures.image ∙ c.load-there.ensures.image in
    let link = read w (g.M.Look.shown.image c.load-there.new.self) (c.args.top + 2) c.load-left.result c.load-left.ensures.word c.load-there.ensures.image in
    let low = level_left w (g.M.Look.shown.image c.load-left.new.self) c.load-left.result c.if-top-eq0.false c.requires.tree same link in
    let one = looks_loaded 1 (omega arith) c.load-there.ensures.image c.load-there.ensures.counts in
    let two = looks_then 2 (omega arith) one (looks_loaded 1 (omega arith) c.load-left.ensures.image c.load-left.ensures.counts) in
    looks_then (2 * level_at w c.args.top) (omega (arith, low)) two c.find_node.ensures.looks

pub returns-then-key-there-clause-soon : goal.returns-then-key-there-clause-soon
returns-then-key-there-clause-soon g t c = λ some.
    let w = g.M.Look.shown.image c.args.space.now in
    let same = c.load-left.ensures.image ∙ c.load-there.ensures.image in
    let link = read w (g.M.Look.shown.image c.load-there.new.self) (c.args.top + 2) c.load-left.result c.load-left.ensures.word c.load-there.ensures.image in
    let low = level_left w (g.M.Look.shown.image c.load-left.new.self) c.load-left.result c.if-top-eq0.false c.requires.tree same link in
    let one = looks_loaded 1 (omega arith) c.load-there.ensures.image c.load-there.ensures.counts in
    let two = looks_then 2 (omega arith) one (looks_loaded 1 (omega arith) c.load-left.ensures.image c.load-left.ensures.counts) in
    looks_then (2 * level_at w c.args.top - 1) (omega (arith, low, c.find_node.ensures.level some)) two (c.find_node.ensures.soon some)

pub find_node-requires-2 : goal.find_node-requires-2
find_node-requires-2 g t c κs h =
    let w = g.M.Look.shown.image c.args.space.now in
    let same = c.load-right.ensures.image ∙ c.load-there.ensures.image in
    let link = read w (g.M.Look.shown.image c.load-there.new.self) (c.args.top + 3) c.load-right.result c.load-right.ensures.word c.load-there.ensures.image in
    let low = level_right w (g.M.Look.shown.image c.load-right.new.self) c.load-right.result c.if-top-eq0.false c.requires.tree same link in
    let tree = detach_right_tree c.if-top-eq0.false c.load-there.ensures.word refl link c.requires.tree in
    (omega (arith, c.decreases, low), (h, (c.requires.order, (ap length same ∙ c.requires.sized, subst (λ (x : List ℕ). HasTree c.args.order x c.load-right.result) (sym same) tree))))

pub returns-clause-found : goal.returns-clause-found
returns-clause-found g t c =
    let w = g.M.Look.shown.image c.args.space.now in
    let same = c.load-right.ensures.image ∙ c.load-there.ensures.image in
    let link = read w (g.M.Look.shown.image c.load-there.new.self) (c.args.top + 3) c.load-right.result c.load-right.ensures.word c.load-there.ensures.image in
    let found = subst (λ (x : List ℕ). FoundBy c.args.order x c.load-right.result c.args.key c.find_node-2.result) same c.find_node-2.ensures.found in
    found_right w c.args.key c.if-top-eq0.false c.load-there.ensures.word c.load-right.result c.find_node-2.result link (omega arith) found

pub returns-clause-within : goal.returns-clause-within
returns-clause-within g t c = λ some. omega (arith, c.find_node-2.ensures.within some, ap length c.load-right.ensures.image, ap length c.load-there.ensures.image)

pub returns-clause-looks : goal.returns-clause-looks
returns-clause-looks g t c =
    let w = g.M.Look.shown.image c.args.space.now in
    let same = c.load-right.ensures.image ∙ c.load-there.ensures.image in
    let link = read w (g.M.Look.shown.image c.load-there.new.self) (c.args.top + 3) c.load-right.result c.load-right.ensures.word c.load-there.ensures.image in
    let low = level_right w (g.M.Look.shown.image c.load-right.new.self) c.load-right.result c.if-top-eq0.false c.requires.tree same link in
    let one = looks_loaded 1 (omega arith) c.load-there.ensures.image c.load-there.ensures.counts in
    let two = looks_then 2 (omega arith) one (looks_loaded 1 (omega arith) c.load-right.ensures.image c.load-right.ensures.counts) in
    looks_then (2 * level_at w c.args.top) (omega (arith, low)) two c.find_node-2.ensures.looks

pub returns-clause-soon : goal.returns-clause-soon
returns-clause-soon g t c = λ some.
    let w = g.M.Look.shown.image c.args.space.now in
    let same = c.load-right.ensures.image ∙ c.load-there.ensures.image in
    let link = read w (g.M.Look.shown.image c.load-there.new.self) (c.args.top + 3) c.load-right.result c.load-right.ensures.word c.load-there.ensures.image in
    let low = level_right w (g.M.Look.shown.image c.load-right.new.self) c.load-right.result c.if-top-eq0.false c.requires.tree same link in
    let one = looks_loaded 1 (omega arith) c.load-there.ensures.image c.load-there.ensures.counts in
    let two = looks_then 2 (omega arith) one (looks_loaded 1 (omega arith) c.load-right.ensures.image c.load-right.ensures.counts) in
    looks_then (2 * level_at w c.args.top - 1) (omega (arith, low, c.find_node-2.ensures.level some)) two (c.find_node-2.ensures.soon some)

pub returns-then-there-key-clause-level : goal.returns-then-there-key-clause-level
returns-then-there-key-clause-level g t c = λ _. level_some (g.M.Look.shown.image c.args.space.now) c.if-top-eq0.false c.requires.tree

pub returns-then-key-there-clause-level : goal.returns-then-key-there-clause-level
returns-then-key-there-clause-level g t c = λ _. level_some (g.M.Look.shown.image c.args.space.now) c.if-top-eq0.false c.requires.tree

pub returns-clause-level : goal.returns-clause-level
returns-clause-level g t c = λ _. level_some (g.M.Look.shown.image c.args.space.now) c.if-top-eq0.false c.requires.tree
