use Rattle.std.proofs.Common.{◌+◌, ◌*◌, ap, sym, ◌∙◌, arith, length, List, ℕ, subst, refl}
use Rattle.std.specs.Prelude.{◌≡◌}
use Rattle.rom_model.proofs.Looks.{looks_then}
use Rattle.rom_order_region.specs.Tree.{entries}
use Rattle.rom_order_region.specs.Nodes.{level_at}
use Rattle.rom_order_region.specs.Query.{inside}
use Rattle.rom_order_region.proofs.Frame.{some_small, read}
use Rattle.rom_order_region.proofs.Attaching.{level_left, level_right}
use Rattle.rom_order_region.proofs.Finding.{looks_loaded}
use Rattle.rom_order_region.proofs.Summed.{CountsOn, AddsOn, HasRange, count_left, count_right, count_both, sum_left, sum_right, sum_both, range_left, range_right, range_front, range_back, loads_one, loads_both}
use Rattle.rom_order_region.proofs.tree.find.+add_between.Goals as goal

pub overflow_add-top : goal.overflow_add-top
overflow_add-top g t c = omega (arith, some_small c.args.top c.requires.order record { tree = c.requires.tree.0; is = c.requires.tree.1 } refl c.if-top-eq0.false)

pub overflow_add-top-then-high-there : goal.overflow_add-top-then-high-there
overflow_add-top-then-high-there g t c = omega (arith, some_small c.args.top c.requires.order record { tree = c.requires.tree.0; is = c.requires.tree.1 } refl c.if-top-eq0.false)

pub overflow_add-top-3 : goal.overflow_add-top-3
overflow_add-top-3 g t c = omega (arith, some_small c.args.top c.requires.order record { tree = c.requires.tree.0; is = c.requires.tree.1 } refl c.if-top-eq0.false)

pub overflow_add-top-4 : goal.overflow_add-top-4
overflow_add-top-4 g t c = omega (arith, some_small c.args.top c.requires.order record { tree = c.requires.tree.0; is = c.requires.tree.1 } refl c.if-top-eq0.false)

pub add_between-requires : goal.add_between-requires
add_between-requires g t c κs h =
    let w = g.M.Look.shown.image c.args.space.now in
    let same = c.load-higher.ensures.image ∙ c.load-there.ensures.image in
    let link = read w (g.M.Look.shown.image c.load-there.new.self) (c.args.top + 3) c.load-higher.result c.load-higher.ensures.word c.load-there.ensures.image in
    let lower = level_right w (g.M.Look.shown.image c.load-higher.new.self) c.load-higher.result c.if-top-eq0.false record { tree = c.requires.tree.0; is = c.requires.tree.1 } same link in
    let range = range_right w c.args.low c.args.high c.if-top-eq0.false c.load-there.ensures.word c.load-higher.result link c.if-there-low.true c.args.all.now.count c.requires.tree in
    (omega (arith, c.decreases, lower), (h, (c.requires.order, (ap length same ∙ c.requires.sized, (subst (λ (x : List ℕ). HasRange c.args.order x c.load-higher.result c.args.low c.args.high c.args.all.now.count) (sym same) range, c.requires.small)))))

pub returns-then-there-low-clause-count : goal.returns-then-there-low-clause-count
returns-then-there-low-clause-count g t c =
    let w = g.M.Look.shown.image c.args.space.now in
    let same = c.load-higher.ensures.image ∙ c.load-there.ensures.image in
    let link = read w (g.M.Look.shown.image c.load-there.new.self) (c.args.top + 3) c.load-higher.result c.load-higher.ensures.word c.load-there.ensures.image in
    let found = subst (λ (x : List ℕ). CountsOn c.args.order x c.load-higher.result c.args.low c.args.high c.args.all.now.count c.add_between.new.all.count) same c.add_between.ensures.count in
    count_right w c.args.low c.args.high c.if-top-eq0.false c.load-there.ensures.word c.load-higher.result link c.if-there-low.true c.args.all.now.count c.add_between.new.all.count found

pub returns-then-there-low-clause-sum : goal.returns-then-there-low-clause-sum
returns-then-there-low-clause-sum g t c =
    let w = g.M.Look.shown.image c.args.space.now in
    let same = c.load-higher.ensures.image ∙ c.load-there.ensures.image in
    let link = read w (g.M.Look.shown.image c.load-there.new.self) (c.args.top + 3) c.load-higher.result c.load-higher.ensures.word c.load-there.ensures.image in
    let found = subst (λ (x : List ℕ). AddsOn c.args.order x c.load-higher.result c.args.low c.args.high c.args.all.now.sum c.add_between.new.all.sum) same c.add_between.ensures.sum in
    sum_right w c.args.low c.args.high c.if-top-eq0.false c.load-there.ensures.word c.load-higher.result link c.if-there-low.true c.args.all.now.sum c.add_between.new.all.sum found

pub returns-then-there-low-clause-looks : goal.returns-then-there-low-clause-looks
returns-then-there-low-clause-looks g t c k many =
    let w = g.M.Look.shown.image c.args.space.now in
    let same = c.load-higher.ensures.image ∙ c.load-there.ensures.image in
    let link = read w (g.M.Look.shown.image c.load-there.new.self) (c.args.top + 3) c.load-higher.result c.load-higher.ensures.word c.load-there.ensures.image in
    let lower = level_right w (g.M.Look.shown.image c.load-higher.new.self) c.load-higher.result c.if-top-eq0.false record { tree = c.requires.tree.0; is = c.requires.tree.1 } same link in
    let one = looks_loaded 1 (omega arith) c.load-there.ensures.image c.load-there.ensures.counts in
    let two = looks_then 2 (omega arith) one (looks_loaded 1 (omega arith) c.load-higher.ensures.image c.load-higher.ensures.counts) in
    looks_then ((k + 1) * (2 * level_at w c.args.top)) (loads_one k (level_at (g.M.Look.shown.image c.load-higher.new.self) c.load-higher.result) (level_at w c.args.top) lower) two (c.add_between.ensures.looks k many)

pub add_between-requires-then-high-there : goal.add_between-requires-then-high-there
add_between-requires-then-high-there g t c κs h =
    let w = g.M.Look.shown.image c.args.space.now in
    let same = c.load-lower.ensures.image ∙ c.load-there.ensures.image in
    let link = read w (g.M.Look.shown.image c.load-there.new.self) (c.args.top + 2) c.load-lower.result c.load-lower.ensures.word c.load-there.ensures.image in
    let lower = level_left w (g.M.Look.shown.image c.load-lower.new.self) c.load-lower.result c.if-top-eq0.false record { tree = c.requires.tree.0; is = c.requires.tree.1 } same link in
    let range = range_left w c.args.low c.args.high c.if-top-eq0.false c.load-there.ensures.word c.load-lower.result link c.if-high-there.true c.args.all.now.count c.requires.tree in
    (omega (arith, c.decreases, lower), (h, (c.requires.order, (ap length same ∙ c.requires.sized, (subst (λ (x : List ℕ). HasRange c.args.order x c.load-lower.result c.args.low c.args.high c.args.all.now.count) (sym same) range, c.requires.small)))))

pub returns-then-high-there-clause-count : goal.returns-then-high-there-clause-count
returns-then-high-there-clause-count g t c =
    let w = g.M.Look.shown.image c.args.space.now in
    let same = c.load-lower.ensures.image ∙ c.load-there.ensures.image in
    let link = read w (g.M.Look.shown.image c.load-there.new.self) (c.args.top + 2) c.load-lower.result c.load-lower.ensures.word c.load-there.ensures.image in
    let found = subst (λ (x : List ℕ). CountsOn c.args.order x c.load-lower.result c.args.low c.args.high c.args.all.now.count c.add_between-then-high-there.new.all.count) same c.add_between-then-high-there.ensures.count in
    count_left w c.args.low c.args.high c.if-top-eq0.false c.load-there.ensures.word c.load-lower.result link c.if-high-there.true c.args.all.now.count c.add_between-then-high-there.new.all.count found

pub returns-then-high-there-clause-sum : goal.returns-then-high-there-clause-sum
returns-then-high-there-clause-sum g t c =
    let w = g.M.Look.shown.image c.args.space.now in
    let same = c.load-lower.ensures.image ∙ c.load-there.ensures.image in
    let link = read w (g.M.Look.shown.image c.load-there.new.self) (c.args.top + 2) c.load-lower.result c.load-lower.ensures.word c.load-there.ensures.image in
    let found = subst (λ (x : List ℕ). AddsOn c.args.order x c.load-lower.result c.args.low c.args.high c.args.all.now.sum c.add_between-then-high-there.new.all.sum) same c.add_between-then-high-there.ensures.sum in
    sum_left w c.args.low c.args.high c.if-top-eq0.false c.load-there.ensures.word c.load-lower.result link c.if-high-there.true c.args.all.now.sum c.add_between-then-high-there.new.all.sum found

pub returns-then-high-there-clause-looks : goal.returns-then-high-there-clause-looks
returns-then-high-there-clause-looks g t c k many =
    let w = g.M.Look.shown.image c.args.space.now in
    let same = c.load-lower.ensures.image ∙ c.load-there.ensures.image in
    let link = read w (g.M.Look.shown.image c.load-there.new.self) (c.args.top + 2) c.load-lower.result c.load-lower.ensures.word c.load-there.ensures.image in
    let lower = level_left w (g.M.Look.shown.image c.load-lower.new.self) c.load-lower.result c.if-top-eq0.false record { tree = c.requires.tree.0; is = c.requires.tree.1 } same link in
    let one = looks_loaded 1 (omega arith) c.load-there.ensures.image c.load-there.ensures.counts in
    let two = looks_then 2 (omega arith) one (looks_loaded 1 (omega arith) c.load-lower.ensures.image c.load-lower.ensures.counts) in
    looks_then ((k + 1) * (2 * level_at w c.args.top)) (loads_one k (level_at (g.M.Look.shown.image c.load-lower.new.self) c.load-lower.result) (level_at w c.args.top) lower) two (c.add_between-then-high-there.ensures.looks k many)

pub add_between-requires-2 : goal.add_between-requires-2
add_between-requires-2 g t c κs h =
    let w = g.M.Look.shown.image c.args.space.now in
    let one = c.load-there.ensures.image in
    let two = c.load-value.ensures.image ∙ one in
    let three = c.load-left.ensures.image ∙ two in
    let four = c.load-right.ensures.image ∙ three in
    let left = read w (g.M.Look.shown.image c.load-value.new.self) (c.args.top + 2) c.load-left.result c.load-left.ensures.word two in
    let right = read w (g.M.Look.shown.image c.load-left.new.self) (c.args.top + 3) c.load-right.result c.load-right.ensures.word three in
    let lower = level_left w (g.M.Look.shown.image c.load-right.new.self) c.load-left.result c.if-top-eq0.false record { tree = c.requires.tree.0; is = c.requires.tree.1 } four left in
    let front = range_front w c.args.low c.args.high c.if-top-eq0.false c.load-there.ensures.word c.load-left.result c.load-right.result left right c.if-there-low.false c.if-high-there.false c.args.all.now.count c.requires.tree in
    (omega (arith, c.decreases, lower), (h, (c.requires.order, (ap length four ∙ c.requires.sized, (subst (λ (x : List ℕ). HasRange c.args.order x c.load-left.result c.args.low c.args.high (c.args.all.now.count + 1)) (sym four) front, omega (arith, c.requires.small, c.load-value.type_inv))))))

pub add_between-requires-3 : goal.add_between-requires-3
add_between-requires-3 g t c κs h =
    let w = g.M.Look.shown.image c.args.space.now in
    let one = c.load-there.ensures.image in
    let two = c.load-value.ensures.image ∙ one in
    let three = c.load-left.ensures.image ∙ two in
    let four = c.load-right.ensures.image ∙ three in
    let left = read w (g.M.Look.shown.image c.load-value.new.self) (c.args.top + 2) c.load-left.result c.load-left.ensures.word two in
    let right = read w (g.M.Look.shown.image c.load-left.new.self) (c.args.top + 3) c.load-right.result c.load-right.ensures.word three in
    let front = range_front w c.args.low c.args.high c.if-top-eq0.false c.load-there.ensures.word c.load-left.result c.load-right.result left right c.if-there-low.false c.if-high-there.false c.args.all.now.count c.requires.tree in
    let before = subst (λ (x : List ℕ). CountsOn c.args.order x c.load-left.result c.args.low c.args.high (c.args.all.now.count + 1) c.add_between-2.new.all.count) four c.add_between-2.ensures.count in
    let b = length (inside c.args.low c.args.high (entries front.0)) in
    let some = before front.0 front.1 front.2 in
    let five = (c.add_between-2.ensures.looks b some).image ∙ four in
    let higher = level_right w (g.M.Look.shown.image c.add_between-2.new.space) c.load-right.result c.if-top-eq0.false record { tree = c.requires.tree.0; is = c.requires.tree.1 } five right in
    let back = range_back w c.args.low c.args.high c.if-top-eq0.false c.load-there.ensures.word c.load-left.result c.load-right.result left right c.if-there-low.false c.if-high-there.false c.args.all.now.count c.add_between-2.new.all.count before c.requires.tree in
    (omega (arith, c.decreases, higher), (h, (c.requires.order, (ap length five ∙ c.requires.sized, (subst (λ (x : List ℕ). HasRange c.args.order x c.load-right.result c.args.low c.args.high c.add_between-2.new.all.count) (sym five) back, c.add_between-2.ensures.small)))))

pub returns-clause-count : goal.returns-clause-count
returns-clause-count g t c =
    let w = g.M.Look.shown.image c.args.space.now in
    let one = c.load-there.ensures.image in
    let two = c.load-value.ensures.image ∙ one in
    let three = c.load-left.ensures.image ∙ two in
    let four = c.load-right.ensures.image ∙ three in
    let left = read w (g.M.Look.shown.image c.load-value.new.self) (c.args.top + 2) c.load-left.result c.load-left.ensures.word two in
    let right = read w (g.M.Look.shown.image c.load-left.new.self) (c.args.top + 3) c.load-right.result c.load-right.ensures.word three in
    let front = range_front w c.args.low c.args.high c.if-top-eq0.false c.load-there.ensures.word c.load-left.result c.load-right.result left right c.if-there-low.false c.if-high-there.false c.args.all.now.count c.requires.tree in
    let before = subst (λ (x : List ℕ). CountsOn c.args.order x c.load-left.result c.args.low c.args.high (c.args.all.now.count + 1) c.add_between-2.new.all.count) four c.add_between-2.ensures.count in
    let b = length (inside c.args.low c.args.high (entries front.0)) in
    let some = before front.0 front.1 front.2 in
    let five = (c.add_between-2.ensures.looks b some).image ∙ four in
    let behind = subst (λ (x : List ℕ). CountsOn c.args.order x c.load-right.result c.args.low c.args.high c.add_between-2.new.all.count c.add_between-3.new.all.count) five c.add_between-3.ensures.count in
    count_both w c.args.low c.args.high c.if-top-eq0.false c.load-there.ensures.word c.load-left.result c.load-right.result left right c.if-there-low.false c.if-high-there.false c.args.all.now.count c.add_between-2.new.all.count c.add_between-3.new.all.count before behind

pub returns-clause-sum : goal.returns-clause-sum
returns-clause-sum g t c =
    let w = g.M.Look.shown.image c.args.space.now in
    let one = c.load-there.ensures.image in
    let two = c.load-value.ensures.image ∙ one in
    let three = c.load-left.ensures.image ∙ two in
    let four = c.load-right.ensures.image ∙ three in
    let value = read w (g.M.Look.shown.image c.load-there.new.self) (c.args.top + 1) c.load-value.result c.load-value.ensures.word one in
    let left = read w (g.M.Look.shown.image c.load-value.new.self) (c.args.top + 2) c.load-left.result c.load-left.ensures.word two in
    let right = read w (g.M.Look.shown.image c.load-left.new.self) (c.args.top + 3) c.load-right.result c.load-right.ensures.word three in
    let front = range_front w c.args.low c.args.high c.if-top-eq0.false c.load-there.ensures.word c.load-left.result c.load-right.result left right c.if-there-low.false c.if-high-there.false c.args.all.now.count c.requires.tree in
    let before = subst (λ (x : List ℕ). CountsOn c.args.order x c.load-left.result c.args.low c.args.high (c.args.all.now.count + 1) c.add_between-2.new.all.count) four c.add_between-2.ensures.count in
    let b = length (inside c.args.low c.args.high (entries front.0)) in
    let some = before front.0 front.1 front.2 in
    let five = (c.add_between-2.ensures.looks b some).image ∙ four in
    let added = subst (λ (x : List ℕ). AddsOn c.args.order x c.load-left.result c.args.low c.args.high (c.args.all.now.sum + c.load-value.result) c.add_between-2.new.all.sum) four c.add_between-2.ensures.sum in
    let more = subst (λ (x : List ℕ). AddsOn c.args.order x c.load-right.result c.args.low c.args.high c.add_between-2.new.all.sum c.add_between-3.new.all.sum) five c.add_between-3.ensures.sum in
    sum_both w c.args.low c.args.high c.if-top-eq0.false c.load-there.ensures.word c.load-left.result c.load-right.result left right c.if-there-low.false c.if-high-there.false c.load-value.result c.args.all.now.sum c.add_between-2.new.all.sum c.add_between-3.new.all.sum value added more

pub returns-clause-looks : goal.returns-clause-looks
returns-clause-looks g t c k many =
    let w = g.M.Look.shown.image c.args.space.now in
    let one = c.load-there.ensures.image in
    let two = c.load-value.ensures.image ∙ one in
    let three = c.load-left.ensures.image ∙ two in
    let four = c.load-right.ensures.image ∙ three in
    let left = read w (g.M.Look.shown.image c.load-value.new.self) (c.args.top + 2) c.load-left.result c.load-left.ensures.word two in
    let right = read w (g.M.Look.shown.image c.load-left.new.self) (c.args.top + 3) c.load-right.result c.load-right.ensures.word three in
    let front = range_front w c.args.low c.args.high c.if-top-eq0.false c.load-there.ensures.word c.load-left.result c.load-right.result left right c.if-there-low.false c.if-high-there.false c.args.all.now.count c.requires.tree in
    let before = subst (λ (x : List ℕ). CountsOn c.args.order x c.load-left.result c.args.low c.args.high (c.args.all.now.count + 1) c.add_between-2.new.all.count) four c.add_between-2.ensures.count in
    let b = length (inside c.args.low c.args.high (entries front.0)) in
    let some = before front.0 front.1 front.2 in
    let five = (c.add_between-2.ensures.looks b some).image ∙ four in
    let lower = level_left w (g.M.Look.shown.image c.load-right.new.self) c.load-left.result c.if-top-eq0.false record { tree = c.requires.tree.0; is = c.requires.tree.1 } four left in
    let higher = level_right w (g.M.Look.shown.image c.add_between-2.new.space) c.load-right.result c.if-top-eq0.false record { tree = c.requires.tree.0; is = c.requires.tree.1 } five right in
    let behind = subst (λ (x : List ℕ). CountsOn c.args.order x c.load-right.result c.args.low c.args.high c.add_between-2.new.all.count c.add_between-3.new.all.count) five c.add_between-3.ensures.count in
    let back = range_back w c.args.low c.args.high c.if-top-eq0.false c.load-there.ensures.word c.load-left.result c.load-right.result left right c.if-there-low.false c.if-high-there.false c.args.all.now.count c.add_between-2.new.all.count before c.requires.tree in
    let d = length (inside c.args.low c.args.high (entries back.0)) in
    let rest = behind back.0 back.1 back.2 in
    let l1 = looks_loaded 1 (omega arith) c.load-there.ensures.image c.load-there.ensures.counts in
    let l2 = looks_then 2 (omega arith) l1 (looks_loaded 1 (omega arith) c.load-value.ensures.image c.load-value.ensures.counts) in
    let l3 = looks_then 3 (omega arith) l2 (looks_loaded 1 (omega arith) c.load-left.ensures.image c.load-left.ensures.counts) in
    let l4 = looks_then 4 (omega arith) l3 (looks_loaded 1 (omega arith) c.load-right.ensures.image c.load-right.ensures.counts) in
    let x = level_at (g.M.Look.shown.image c.load-right.new.self) c.load-left.result in
    let y = level_at (g.M.Look.shown.image c.add_between-2.new.space) c.load-right.result in
    let l5 = looks_then (4 + (b + 1) * (2 * x)) (omega arith) l4 (c.add_between-2.ensures.looks b some) in
    let all : k ≡ b + d + 1 = omega (arith, many, some, rest) in
    looks_then ((k + 1) * (2 * level_at w c.args.top)) (loads_both b d k x y (level_at w c.args.top) all lower higher) l5 (c.add_between-3.ensures.looks d rest)
