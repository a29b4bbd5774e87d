use Rattle.std.proofs.Common.{inl, refl}
use Rattle.rom_device.specs.Device.{WritesWord}
use Rattle.rom_device.specs.Cached.{shown_by_cached}
use Rattle.rom_device.proofs.Reading.{does_after}
use Rattle.rom_device.proofs.cached.Cached.keep_anywhere.Goals as goal

pub returns-clause-does : goal.returns-clause-does
returns-clause-does g c =
    does_after (shown_by_cached g.M.Medium.shown) (WritesWord c.args.at c.args.value) (λ x. inl refl) c.args.self.now c.make_room.new.self c.append.new.self c.make_room.ensures.only c.append.ensures.does
