use Rattle.rom_model.specs.declared.record.Fate.TheVariants.{Published}
use Rattle.rom_lr.proofs.shared.Shared.switch.Given as goal

abbrev pub ghosts-switch_as : goal.ghosts-switch_as
ghosts-switch_as g a = record { before = a.before; after = a.after; fate = Published; moment = 0 }
