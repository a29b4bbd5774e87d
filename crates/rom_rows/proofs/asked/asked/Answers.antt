use Rattle.std.proofs.Common.{sym, subst}
use Rattle.rom_model.specs.Region.{Contents}
use Rattle.rom_rule.specs.Views.{image_of}
use Rattle.rom_rule.specs.declared.views.View.{View}
use Rattle.rom_rows.proofs.asked.asked.Goals as goal

pub returns-clause-region : goal.returns-clause-region
returns-clause-region c = let h = c.requires.region in (h.0, h.1, subst (λ (v : View). Contents v.base.order (image_of v.position) h.0 h.1) (sym c.asked_as.ensures.still) h.2)
