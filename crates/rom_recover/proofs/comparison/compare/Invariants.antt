use Rattle.std.proofs.Common.{◌≡◌, ◌-◌, ◌*◌, ◌≤◌, IsTrue, length}
use Rattle.rom_model.specs.Blocks.{region_len}
use Rattle.rom_model.specs.Faults.{Adds}
use Rattle.rom_device.specs.Device.{OnlyReads}
use Rattle.rom_header.specs.Layout.{MAIN}
use Rattle.rom_recover.specs.Image.{IsReadFrom}
use Rattle.rom_recover.specs.Recovered.{AreTwins}
use Rattle.rom_recover.proofs.comparison.compare.Given as goal

-- the regions are the same so far, and main is kept
abbrev pub invariant-loop-from : goal.invariant-loop-from
invariant-loop-from g l = record {
  within : l.from ≤ region_len l.fn.geometry;
  as_long : length l.image ≡ length l.fn.image;
  kept : IsTrue g.D.Device.shown.tells_words → IsReadFrom MAIN l.from (g.D.Device.shown.words l.fn.device) l.image;
  same : IsTrue g.D.Device.shown.tells_words → AreTwins l.fn.geometry l.from (g.D.Device.shown.words l.fn.device);
  only : OnlyReads g.D.Device.shown l.fn.device l.device;
  reads_made : Adds (2 * l.from) (g.D.Device.shown.reads l.fn.device) (g.D.Device.shown.reads l.device);
  faults : g.D.Device.shown.faults l.device ≡ g.D.Device.shown.faults l.fn.device;
}

abbrev pub decreases-loop-from : goal.decreases-loop-from
decreases-loop-from g l = region_len l.fn.geometry - l.from
