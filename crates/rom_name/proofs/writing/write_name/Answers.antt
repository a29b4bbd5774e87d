use Rattle.rom_device.proofs.Going.{does_by}
use Rattle.rom_name.proofs.Written.{name_written}
use Rattle.rom_name.proofs.writing.write_name.Goals as goal

pub returns-clause-does : goal.returns-clause-does
returns-clause-does g c = does_by g.D.Device.shown _ _ (λ x y. name_written c.args.name x y) _ _ c.write_guarded.ensures.does
