use Rattle.std.proofs.Common.{refl}
use Rattle.rom_device.specs.Device.{WritesWord}
use Rattle.rom_device.proofs.OnMedium.{device_does}
use Rattle.rom_device.proofs.cached_device.CachedDeviceDevice.write.Goals as goal

pub returns-then-not-keep-clause-does : goal.returns-then-not-keep-clause-does
returns-then-not-keep-clause-does g c =
    device_does g.M.Medium.lasting g.M.Medium.shown (WritesWord c.args.at c.args.value) c.args.self.now c.fault.new.self c.keep.new.self c.fault.ensures.words c.keep.ensures.does

pub returns-clause-does : goal.returns-clause-does
returns-clause-does g c = device_does g.M.Medium.lasting g.M.Medium.shown (WritesWord c.args.at c.args.value) c.args.self.now _ c.keep.new.self refl c.keep.ensures.does
