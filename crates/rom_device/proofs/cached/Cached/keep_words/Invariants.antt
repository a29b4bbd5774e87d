use Rattle.std.proofs.Common.{◌≡◌, ◌+◌, ◌-◌, ◌<◌, ℕ, IsFalse, IsTrue, Some, slice_index}
use Rattle.rom_model.specs.Space.{ChangesOnly}
use Rattle.rom_device.specs.Device.{AreRenewed, Does, WritesMany}
use Rattle.rom_device.specs.Run.{word_of_run, with_run}
use Rattle.rom_device.specs.Cached.{has_failed_sync, shown_by_cached}
use Rattle.rom_device.specs.Windows.{PutsMany}
use Rattle.rom_device.proofs.cached.Cached.keep_words.Given as goal

-- the words so far are written, and no others
abbrev pub invariant-loop-index : goal.invariant-loop-index
invariant-loop-index g l = record {
  windows : PutsMany l.at l.index l.values l.fn.self.windows l.self.windows;
  waits : 0 < l.index → word_of_run l.self.pending (l.at + (l.index - 1)) ≡ Some (slice_index l.values (l.index - 1));
  does : Does (shown_by_cached g.M.Medium.shown) (WritesMany l.at l.values) l.fn.self l.self;
  renews : AreRenewed (shown_by_cached g.M.Medium.shown) l.at l.index l.self;
  only : IsTrue g.M.Medium.shown.tells_words → ChangesOnly l.at l.index (with_run l.fn.self.pending (g.M.Medium.shown.words l.fn.self.medium)) (with_run l.self.pending (g.M.Medium.shown.words l.self.medium));
  written : IsTrue g.M.Medium.shown.tells_words → (k : ℕ) → k < l.index → slice_index (with_run l.self.pending (g.M.Medium.shown.words l.self.medium)) (l.at + k) ≡ slice_index l.values k;
  none : IsTrue (g.M.Medium.missing l.fn.self.medium) → l.index ≡ 0;
  faults : IsFalse (g.M.Medium.missing l.fn.self.medium) → g.M.Medium.shown.faults l.self.medium ≡ g.M.Medium.shown.faults l.fn.self.medium;
  missing : g.M.Medium.missing l.self.medium ≡ g.M.Medium.missing l.fn.self.medium;
  failed : has_failed_sync l.self ≡ has_failed_sync l.fn.self;
}
