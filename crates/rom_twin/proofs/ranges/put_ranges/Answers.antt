use Rattle.std.proofs.Common.{rules}
use Rattle.rom_device.proofs.Going.{does_then}
use Rattle.rom_twin.specs.Ranges.{WritesRanges}
use Rattle.rom_twin.proofs.ranges.put_ranges.Goals as goal

pub returns-clause-puts : goal.returns-clause-puts
returns-clause-puts g c = record {
  looks = search rules;
  does = does_then g.D.Device.shown (WritesRanges c.args.ranges.now c.args.base (g.M.Look.shown.image c.args.image.now)) c.args.device.now c.write_ranges.new.device c.sync.new.self c.write_ranges.ensures.does c.sync.ensures.does;
  makes = search rules;
}
