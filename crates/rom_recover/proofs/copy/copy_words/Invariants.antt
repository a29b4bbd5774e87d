use Rattle.std.proofs.Common.{◌≡◌, ◌-◌, ◌≤◌, IsTrue, length}
use Rattle.rom_model.specs.Faults.{Adds}
use Rattle.rom_device.specs.Device.{AreRenewed, Does}
use Rattle.rom_recover.specs.Copied.{Copied, CopiesSome}
use Rattle.rom_recover.specs.Image.{IsReadFrom}
use Rattle.rom_recover.proofs.copy.copy_words.Given as goal

-- the words so far are copied and kept
abbrev pub invariant-loop-done : goal.invariant-loop-done
invariant-loop-done g l = record {
  within : l.done ≤ l.len;
  as_long : length l.image ≡ length l.fn.image;
  kept : IsTrue g.D.Device.shown.tells_words → IsReadFrom l.from l.done (g.D.Device.shown.words l.fn.device) l.image;
  copied : IsTrue g.D.Device.shown.tells_words → Copied l.from l.to l.done (g.D.Device.shown.words l.fn.device) (g.D.Device.shown.words l.device);
  does : Does g.D.Device.shown (CopiesSome (g.D.Device.shown.words l.fn.device) l.from l.to l.len) l.fn.device l.device;
  renews : AreRenewed g.D.Device.shown l.to l.done l.device;
  reads_made : Adds l.done (g.D.Device.shown.reads l.fn.device) (g.D.Device.shown.reads l.device);
  writes_made : Adds l.done (g.D.Device.shown.writes l.fn.device) (g.D.Device.shown.writes l.device);
  syncs : g.D.Device.shown.syncs l.device ≡ g.D.Device.shown.syncs l.fn.device;
  faults : g.D.Device.shown.faults l.device ≡ g.D.Device.shown.faults l.fn.device;
}

abbrev pub decreases-loop-done : goal.decreases-loop-done
decreases-loop-done g l = l.len - l.done
