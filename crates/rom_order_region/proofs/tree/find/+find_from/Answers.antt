use Rattle.std.proofs.Common.{◌+◌, ◌*◌, ap, sym, ◌∙◌, arith, length, List, ℕ, subst, refl}
use Rattle.std.specs.Prelude.{Some, None, IfSome, ◌≤◌}
use Rattle.rom_model.proofs.Looks.{looks_then}
use Rattle.rom_order_region.specs.Nodes.{HasTree, level_at}
use Rattle.rom_order_region.proofs.Frame.{some_within, some_small, read}
use Rattle.rom_order_region.proofs.Attaching.{level_left, level_right}
use Rattle.rom_order_region.proofs.Detaching.{detach_left_tree, detach_right_tree}
use Rattle.rom_order_region.proofs.Finding.{looks_loaded}
use Rattle.rom_order_region.proofs.Walked.{NearBy, near_empty, near_right, near_left, near_here}
use Rattle.rom_order_region.proofs.tree.find.+find_from.Goals as goal

pub returns-then-top-eq0-clause-found : goal.returns-then-top-eq0-clause-found
returns-then-top-eq0-clause-found g t c = near_empty (g.M.Look.shown.image c.args.space.now) c.args.key c.if-top-eq0.true

pub load-there-requires : goal.load-there-requires
load-there-requires g t c = record { within = omega (arith, some_within c.args.top c.requires.order c.requires.tree refl c.if-top-eq0.false, c.requires.sized) }

pub overflow_add-top : goal.overflow_add-top
overflow_add-top g t c = omega (arith, some_small c.args.top c.requires.order c.requires.tree refl c.if-top-eq0.false)

pub overflow_add-top-2 : goal.overflow_add-top-2
overflow_add-top-2 g t c = omega (arith, some_small c.args.top c.requires.order c.requires.tree refl c.if-top-eq0.false)

pub load-left-requires : goal.load-left-requires
load-left-requires g t c = record { within = omega (arith, some_within c.args.top c.requires.order c.requires.tree refl c.if-top-eq0.false, c.requires.sized, ap length c.load-there.ensures.image) }

pub load-right-requires : goal.load-right-requires
load-right-requires g t c = record { within = omega (arith, some_within c.args.top c.requires.order c.requires.tree refl c.if-top-eq0.false, c.requires.sized, ap length c.load-there.ensures.image) }

pub find_from-requires : goal.find_from-requires
find_from-requires g t c κs h =
    let w = g.M.Look.shown.image c.args.space.now in
    let same = c.load-right.ensures.image ∙ c.load-there.ensures.image in
    let link = read w (g.M.Look.shown.image c.load-there.new.self) (c.args.top + 3) c.load-right.result c.load-right.ensures.word c.load-there.ensures.image in
    let low = level_right w (g.M.Look.shown.image c.load-right.new.self) c.load-right.result c.if-top-eq0.false c.requires.tree same link in
    let tree = detach_right_tree c.if-top-eq0.false c.load-there.ensures.word refl link c.requires.tree in
    (omega (arith, c.decreases, low), (h, (c.requires.order, (ap length same ∙ c.requires.sized, subst (λ (x : List ℕ). HasTree c.args.order x c.load-right.result) (sym same) tree))))

pub find_from-requires-2 : goal.find_from-requires-2
find_from-requires-2 g t c κs h =
    let w = g.M.Look.shown.image c.args.space.now in
    let same = c.load-left.ensures.image ∙ c.load-there.ensures.image in
    let link = read w (g.M.Look.shown.image c.load-there.new.self) (c.args.top + 2) c.load-left.result c.load-left.ensures.word c.load-there.ensures.image in
    let low = level_left w (g.M.Look.shown.image c.load-left.new.self) c.load-left.result c.if-top-eq0.false c.requires.tree same link in
    let tree = detach_left_tree c.if-top-eq0.false c.load-there.ensures.word link refl c.requires.tree in
    (omega (arith, c.decreases, low), (h, (c.requires.order, (ap length same ∙ c.requires.sized, subst (λ (x : List ℕ). HasTree c.args.order x c.load-left.result) (sym same) tree))))

pub returns-then-there-key-clause-found : goal.returns-then-there-key-clause-found
returns-then-there-key-clause-found g t c =
    let w = g.M.Look.shown.image c.args.space.now in
    let same = c.load-right.ensures.image ∙ c.load-there.ensures.image in
    let link = read w (g.M.Look.shown.image c.load-there.new.self) (c.args.top + 3) c.load-right.result c.load-right.ensures.word c.load-there.ensures.image in
    let found = subst (λ (x : List ℕ). NearBy c.args.order x c.load-right.result c.args.key c.find_from.result) same c.find_from.ensures.found in
    near_right w c.args.key c.if-top-eq0.false c.load-there.ensures.word c.load-right.result c.find_from.result link c.if-there-key.true found

pub returns-then-there-key-clause-within : goal.returns-then-there-key-clause-within
returns-then-there-key-clause-within g t c =
    subst (λ (x : List ℕ). IfSome c.find_from.result (λ near. near.node + 8 ≤ length x)) (c.load-right.ensures.image ∙ c.load-there.ensures.image) c.find_from.ensures.within

pub returns-then-there-key-clause-looks : goal.returns-then-there-key-clause-looks
returns-then-there-key-clause-looks g t c =
    let w = g.M.Look.shown.image c.args.space.now in
    let same = c.load-right.ensures.image ∙ c.load-there.ensures.image in
    let link = read w (g.M.Look.shown.image c.load-there.new.self) (c.args.top + 3) c.load-right.result c.load-right.ensures.word c.load-there.ensures.image in
    let low = level_right w (g.M.Look.shown.image c.load-right.new.self) c.load-right.result c.if-top-eq0.false c.requires.tree same link in
    let one = looks_loaded 1 (omega arith) c.load-there.ensures.image c.load-there.ensures.counts in
    let two = looks_then 2 (omega arith) one (looks_loaded 1 (omega arith) c.load-right.ensures.image c.load-right.ensures.counts) in
    looks_then (2 * level_at w c.args.top) (omega (arith, low)) two c.find_from.ensures.looks

pub returns-in-Some-clause-found : goal.returns-in-Some-clause-found
returns-in-Some-clause-found g t c =
    let w = g.M.Look.shown.image c.args.space.now in
    let same = c.load-left.ensures.image ∙ c.load-there.ensures.image in
    let link = read w (g.M.Look.shown.image c.load-there.new.self) (c.args.top + 2) c.load-left.result c.load-left.ensures.word c.load-there.ensures.image in
    let found = subst (λ (x : List ℕ). NearBy c.args.order x c.load-left.result c.args.key (Some c.in-Some.near)) same c.in-Some.ensures.found in
    near_left w c.args.key c.if-top-eq0.false c.load-there.ensures.word c.load-left.result c.in-Some.near link found

pub returns-in-Some-clause-within : goal.returns-in-Some-clause-within
returns-in-Some-clause-within g t c = omega (arith, c.in-Some.ensures.within, ap length c.load-left.ensures.image, ap length c.load-there.ensures.image)

pub returns-in-Some-clause-looks : goal.returns-in-Some-clause-looks
returns-in-Some-clause-looks g t c =
    let w = g.M.Look.shown.image c.args.space.now in
    let same = c.load-left.ensures.image ∙ c.load-there.ensures.image in
    let link = read w (g.M.Look.shown.image c.load-there.new.self) (c.args.top + 2) c.load-left.result c.load-left.ensures.word c.load-there.ensures.image in
    let low = level_left w (g.M.Look.shown.image c.load-left.new.self) c.load-left.result c.if-top-eq0.false c.requires.tree same link in
    let one = looks_loaded 1 (omega arith) c.load-there.ensures.image c.load-there.ensures.counts in
    let two = looks_then 2 (omega arith) one (looks_loaded 1 (omega arith) c.load-left.ensures.image c.load-left.ensures.counts) in
    looks_then (2 * level_at w c.args.top) (omega (arith, low)) two c.find_from-2.ensures.looks

pub returns-in-None-clause-found : goal.returns-in-None-clause-found
returns-in-None-clause-found g t c =
    let w = g.M.Look.shown.image c.args.space.now in
    let same = c.load-left.ensures.image ∙ c.load-there.ensures.image in
    let link = read w (g.M.Look.shown.image c.load-there.new.self) (c.args.top + 2) c.load-left.result c.load-left.ensures.word c.load-there.ensures.image in
    let found = subst (λ (x : List ℕ). NearBy c.args.order x c.load-left.result c.args.key None) same c.in-None.ensures.found in
    near_here w c.args.key c.if-top-eq0.false c.load-there.ensures.word c.load-left.result link c.if-there-key.false found

pub returns-in-None-clause-within : goal.returns-in-None-clause-within
returns-in-None-clause-within g t c = omega (arith, some_within c.args.top c.requires.order c.requires.tree refl c.if-top-eq0.false, c.requires.sized)

pub returns-in-None-clause-looks : goal.returns-in-None-clause-looks
returns-in-None-clause-looks g t c =
    let w = g.M.Look.shown.image c.args.space.now in
    let same = c.load-left.ensures.image ∙ c.load-there.ensures.image in
    let link = read w (g.M.Look.shown.image c.load-there.new.self) (c.args.top + 2) c.load-left.result c.load-left.ensures.word c.load-there.ensures.image in
    let low = level_left w (g.M.Look.shown.image c.load-left.new.self) c.load-left.result c.if-top-eq0.false c.requires.tree same link in
    let one = looks_loaded 1 (omega arith) c.load-there.ensures.image c.load-there.ensures.counts in
    let two = looks_then 2 (omega arith) one (looks_loaded 1 (omega arith) c.load-left.ensures.image c.load-left.ensures.counts) in
    looks_then (2 * level_at w c.args.top) (omega (arith, low)) two c.find_from-2.ensures.looks
