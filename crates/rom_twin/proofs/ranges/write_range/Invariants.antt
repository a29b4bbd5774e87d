use Rattle.std.proofs.Common.{◌≡◌, ◌+◌, ◌-◌, ◌<◌, ◌≤◌, ℕ, IsTrue, slice_index}
use Rattle.rom_model.specs.Faults.{Adds}
use Rattle.rom_model.specs.Space.{Looks}
use Rattle.rom_device.specs.Device.{Does}
use Rattle.rom_twin.specs.Ranges.{WritesPart}
use Rattle.rom_twin.proofs.ranges.write_range.Given as goal

-- the words of the range before `at` are written
abbrev pub invariant-loop-at : goal.invariant-loop-at
invariant-loop-at g l = record {
  least : l.range.start ≤ l.at;
  most : l.at - l.range.start ≤ l.range.end - l.range.start;
  looks : Looks g.M.Look.shown (l.at - l.range.start) l.fn.image l.image;
  written : IsTrue g.D.Device.shown.tells_words → (k : ℕ) → l.range.start ≤ k → k < l.at → slice_index (g.D.Device.shown.words l.device) (l.base + k) ≡ slice_index (g.M.Look.shown.image l.fn.image) k;
  does : Does g.D.Device.shown (WritesPart l.base l.range.start (l.range.end - l.range.start) (g.M.Look.shown.image l.fn.image)) l.fn.device l.device;
  reads : g.D.Device.shown.reads l.device ≡ g.D.Device.shown.reads l.fn.device;
  writes_made : Adds (l.at - l.range.start) (g.D.Device.shown.writes l.fn.device) (g.D.Device.shown.writes l.device);
  syncs : g.D.Device.shown.syncs l.device ≡ g.D.Device.shown.syncs l.fn.device;
  faults : g.D.Device.shown.faults l.device ≡ g.D.Device.shown.faults l.fn.device;
}

abbrev pub decreases-loop-at : goal.decreases-loop-at
decreases-loop-at g l = l.range.end - l.at
