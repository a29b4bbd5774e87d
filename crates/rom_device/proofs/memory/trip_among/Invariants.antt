use Rattle.std.proofs.Common.{◌≡◌, drop}
use Rattle.rom_device.specs.Trips.{trip_at}
use Rattle.rom_device.proofs.memory.trip_among.Given as goal

abbrev pub invariant-loop-trip : goal.invariant-loop-trip
invariant-loop-trip l = trip_at (drop l.trip-index l.trips) l.made l.call l.at ≡ trip_at l.trips l.made l.call l.at
