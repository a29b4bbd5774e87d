use Rattle.std.proofs.Common.{◌≡◌, ◌+◌, ◌<◌, ℕ, length, IsTrue, slice_index}
use Rattle.rom_model.specs.Faults.{Adds}
use Rattle.rom_device.specs.Device.{OnlyReads}
use Rattle.rom_device.proofs.device.Device.read_words.Given as goal

-- the words so far were read
abbrev pub invariant-loop-index : goal.invariant-loop-index
invariant-loop-index g l = record {
  len : length l.into ≡ length l.fn.into;
  read : IsTrue g.Self.Device.shown.tells_words → (k : ℕ) → k < l.index → slice_index l.into k ≡ slice_index (g.Self.Device.shown.words l.fn.self) (l.fn.at + k);
  only : OnlyReads g.Self.Device.shown l.fn.self l.self;
  reads_made : Adds l.index (g.Self.Device.shown.reads l.fn.self) (g.Self.Device.shown.reads l.self);
  faults : g.Self.Device.shown.faults l.self ≡ g.Self.Device.shown.faults l.fn.self;
}
