use Rattle.std.proofs.Common.{ap, ◌∙◌, arith, length, List, ℕ, length-set}
use Rattle.std.specs.Prelude.{slice_set}
use Rattle.rom_order_region.proofs.root.set_tree.Goals as goal

pub store_changed-requires-clause-within : goal.store_changed-requires-clause-within
store_changed-requires-clause-within g c = omega (arith, c.requires.sized)

pub store_changed-requires-2-clause-within : goal.store_changed-requires-2-clause-within
store_changed-requires-2-clause-within g c = omega (arith, c.requires.sized, ap length c.store_changed.ensures.image, length-set (g.M.Look.shown.image c.args.space.now) 3 c.args.top)

pub returns-clause-image : goal.returns-clause-image
returns-clause-image g c = c.store_changed-2.ensures.image ∙ ap (λ (x : List ℕ). slice_set x 4 c.args.size) c.store_changed.ensures.image
