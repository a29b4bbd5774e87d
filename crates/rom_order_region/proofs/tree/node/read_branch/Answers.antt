use Rattle.std.proofs.Common.{◌≡◌, ap, arith, length}
use Rattle.rom_order_region.proofs.Frame.{some_within, some_small}
use Rattle.rom_order_region.proofs.tree.node.read_branch.Goals as goal

pub load-key-requires : goal.load-key-requires
load-key-requires g c = record { within = omega (arith, some_within c.args.top c.requires.order c.requires.tree refl_top c.requires.some, c.requires.sized) }
  where
    refl_top : c.args.top ≡ c.args.top
    refl_top = λ i. c.args.top

pub overflow_add-top : goal.overflow_add-top
overflow_add-top g c = omega (arith, some_small c.args.top c.requires.order c.requires.tree (λ i. c.args.top) c.requires.some)

pub load-left-requires : goal.load-left-requires
load-left-requires g c = record { within = omega (arith, some_within c.args.top c.requires.order c.requires.tree (λ i. c.args.top) c.requires.some, c.requires.sized, ap length c.load-key.ensures.image) }

pub overflow_add-top-2 : goal.overflow_add-top-2
overflow_add-top-2 g c = omega (arith, some_small c.args.top c.requires.order c.requires.tree (λ i. c.args.top) c.requires.some)

pub load-right-requires : goal.load-right-requires
load-right-requires g c = record { within = omega (arith, some_within c.args.top c.requires.order c.requires.tree (λ i. c.args.top) c.requires.some, c.requires.sized, ap length c.load-left.ensures.image, ap length c.load-key.ensures.image) }
