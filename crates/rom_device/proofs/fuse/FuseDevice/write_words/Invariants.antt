use Rattle.std.proofs.Common.{◌≡◌, ℕ, ◌+◌, ◌<◌, ◌≤◌, false, IsTrue, slice_index}
use Rattle.rom_model.specs.Faults.{Adds}
use Rattle.rom_model.specs.Space.{ChangesOnly}
use Rattle.rom_device.specs.Device.{AreRenewed, Does, WritesMany}
use Rattle.rom_device.specs.Fuse.{inner_of, calls_left, own_faults_of, shown_by_fuse, MadeWrites}
use Rattle.rom_device.proofs.fuse.FuseDevice.write_words.Given as goal

-- the words so far are written, each by a call that was passed on, and no others
abbrev pub invariant-loop-index : goal.invariant-loop-index
invariant-loop-index g l = record {
  does : Does (shown_by_fuse g.D.Device.shown) (WritesMany l.at l.values) l.fn.self l.self;
  renews : AreRenewed (shown_by_fuse g.D.Device.shown) l.at l.index l.self;
  only : IsTrue g.D.Device.shown.tells_words → ChangesOnly l.at l.index (g.D.Device.shown.words (inner_of l.fn.self)) (g.D.Device.shown.words (inner_of l.self));
  written : IsTrue g.D.Device.shown.tells_words → (k : ℕ) → k < l.index → slice_index (g.D.Device.shown.words (inner_of l.self)) (l.at + k) ≡ slice_index l.values k;
  reads : l.self.reads ≡ l.fn.self.reads;
  writes_made : Adds l.index l.fn.self.writes l.self.writes;
  most_writes : l.self.writes ≤ l.fn.self.writes + l.index;
  syncs : l.self.syncs ≡ l.fn.self.syncs;
  left : calls_left l.self + l.index ≡ calls_left l.fn.self;
  own : own_faults_of l.self ≡ own_faults_of l.fn.self;
  faults : g.D.Device.shown.faults (inner_of l.self) ≡ g.D.Device.shown.faults (inner_of l.fn.self);
  made : MadeWrites g.D.Device.shown l.at l.values l.index false (inner_of l.fn.self) (inner_of l.self);
}
