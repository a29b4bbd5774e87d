use Rattle.std.proofs.Common.{◌≡◌, length, IsTrue, take, drop}
use Rattle.rom_model.specs.Faults.{Adds}
use Rattle.rom_model.specs.Space.{Looks}
use Rattle.rom_device.specs.Device.{Does}
use Rattle.rom_ranges.specs.Ranges.{AreWithin, held_count}
use Rattle.rom_twin.specs.Ranges.{IsBut, WritesRanges}
use Rattle.rom_twin.proofs.ranges.write_ranges.Given as goal

-- the ranges before this one are written
abbrev pub invariant-loop-range : goal.invariant-loop-range
invariant-loop-range g l = record {
  within : AreWithin (length (g.M.Look.shown.image l.fn.image)) (drop l.range-index l.ranges);
  looks : Looks g.M.Look.shown (held_count (take l.range-index l.ranges)) l.fn.image l.image;
  written : IsTrue g.D.Device.shown.tells_words → IsBut l.ranges l.base (g.M.Look.shown.image l.fn.image) (g.D.Device.shown.words l.fn.device) → IsBut (drop l.range-index l.ranges) l.base (g.M.Look.shown.image l.fn.image) (g.D.Device.shown.words l.device);
  does : Does g.D.Device.shown (WritesRanges l.ranges l.base (g.M.Look.shown.image l.fn.image)) l.fn.device l.device;
  reads : g.D.Device.shown.reads l.device ≡ g.D.Device.shown.reads l.fn.device;
  writes_made : Adds (held_count (take l.range-index l.ranges)) (g.D.Device.shown.writes l.fn.device) (g.D.Device.shown.writes l.device);
  syncs : g.D.Device.shown.syncs l.device ≡ g.D.Device.shown.syncs l.fn.device;
  faults : g.D.Device.shown.faults l.device ≡ g.D.Device.shown.faults l.fn.device;
}
