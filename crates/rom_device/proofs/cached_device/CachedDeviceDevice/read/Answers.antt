use Rattle.std.proofs.Common.{refl}
use Rattle.rom_device.proofs.OnMedium.{device_reads}
use Rattle.rom_device.proofs.cached_device.CachedDeviceDevice.read.Goals as goal

pub returns-in_default-clause-only : goal.returns-in_default-clause-only
returns-in_default-clause-only g c = device_reads g.M.Medium.lasting g.M.Medium.shown c.args.self.now c.fault.new.self c.find.new.self c.fault.ensures.words c.fault.ensures.writes c.fault.ensures.syncs c.find.ensures.only

pub returns-clause-only : goal.returns-clause-only
returns-clause-only g c = device_reads g.M.Medium.lasting g.M.Medium.shown c.args.self.now _ c.find.new.self refl refl refl c.find.ensures.only
