use Rattle.rom_device.proofs.Going.{does_by}
use Rattle.rom_name.proofs.Counted.{region_stays}
use Rattle.rom_name.proofs.Written.{identity_written}
use Rattle.rom_name.proofs.writing.write_identity.Goals as goal

pub returns-clause-does : goal.returns-clause-does
returns-clause-does g c = does_by g.D.Device.shown _ _ (λ x y. identity_written c.args.identity.now x y) _ _ c.write_guarded.ensures.does

pub returns-clause-keeps : goal.returns-clause-keeps
returns-clause-keeps g c = region_stays
