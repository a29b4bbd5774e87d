use Rattle.std.proofs.Common.{sym, ap, ◌∙◌}
use Rattle.rom_model.specs.State.{state_after}
use Rattle.rom_heap.specs.Fits as plan
use Rattle.rom_heap.proofs.fits.is_there.Goals as goal

pub returns-in-Add-clause-is : goal.returns-in-Add-clause-is
returns-in-Add-clause-is g c s j k held done = c.in_set.ensures.is s j k held done ∙ ap (plan.is_there (state_after c.args.order s j c.args.before.now)) (sym c.in-Add.is)

pub returns-in-Rem-clause-is : goal.returns-in-Rem-clause-is
returns-in-Rem-clause-is g c s j k held done = c.in_set-in-Rem.ensures.is s j k held done ∙ ap (plan.is_there (state_after c.args.order s j c.args.before.now)) (sym c.in-Rem.is)

pub returns-in-Put-clause-is : goal.returns-in-Put-clause-is
returns-in-Put-clause-is g c s j k held done = c.in_map.ensures.is s j k held done ∙ ap (plan.is_there (state_after c.args.order s j c.args.before.now)) (sym c.in-Put.is)

pub returns-in-Del-clause-is : goal.returns-in-Del-clause-is
returns-in-Del-clause-is g c s j k held done = c.in_map-in-Del.ensures.is s j k held done ∙ ap (plan.is_there (state_after c.args.order s j c.args.before.now)) (sym c.in-Del.is)
