use Rattle.std.proofs.Common.{◌≡◌, ℕ, ◌+◌, ◌<◌, ◌≤◌, IsTrue, slice_index}
use Rattle.rom_model.specs.Faults.{Adds}
use Rattle.rom_model.specs.Space.{ChangesOnly}
use Rattle.rom_device.specs.Device.{AreRenewed, Does, WritesMany}
use Rattle.rom_device.proofs.device.Device.write_words.Given as goal

-- the words so far are written, and no others
abbrev pub invariant-loop-index : goal.invariant-loop-index
invariant-loop-index g l = record {
  does : Does g.Self.Device.shown (WritesMany l.at l.values) l.fn.self l.self;
  renews : AreRenewed g.Self.Device.shown l.at l.index l.self;
  only : IsTrue g.Self.Device.shown.tells_words → ChangesOnly l.at l.index (g.Self.Device.shown.words l.fn.self) (g.Self.Device.shown.words l.self);
  written : IsTrue g.Self.Device.shown.tells_words → (k : ℕ) → k < l.index → slice_index (g.Self.Device.shown.words l.self) (l.at + k) ≡ slice_index l.values k;
  reads : g.Self.Device.shown.reads l.self ≡ g.Self.Device.shown.reads l.fn.self;
  writes_made : Adds l.index (g.Self.Device.shown.writes l.fn.self) (g.Self.Device.shown.writes l.self);
  most_writes : g.Self.Device.shown.writes l.self ≤ g.Self.Device.shown.writes l.fn.self + l.index;
  syncs : g.Self.Device.shown.syncs l.self ≡ g.Self.Device.shown.syncs l.fn.self;
  faults : g.Self.Device.shown.faults l.self ≡ g.Self.Device.shown.faults l.fn.self;
}
