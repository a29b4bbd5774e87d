use Rattle.rom_model.specs.declared.record.Fate.TheVariants.{Published}
use Rattle.rom_combine.proofs.committing.publish.Given as goal

abbrev pub ghosts-send_to_main : goal.ghosts-send_to_main
ghosts-send_to_main g a = record { before = a.before; after = a.after; fate = Published; moment = g.D.Device.shown.clock a.twin.now.device }
