use Rattle.std.proofs.Common.{◌≡◌, ◌+◌, ◌-◌, ◌<◌, ◌≤◌, ℕ, length, IsFalse, IsTrue, slice_index}
use Rattle.rom_device.specs.Device.{OnlyReads}
use Rattle.rom_device.specs.Run.{with_run}
use Rattle.rom_device.specs.Cached.{has_failed_sync, shown_by_cached, AsWaiting, HandedOver}
use Rattle.rom_device.proofs.cached.Cached.find_words.Given as goal

-- the words so far were found
abbrev pub invariant-loop-done : goal.invariant-loop-done
invariant-loop-done g l = record {
  within : l.done ≤ length l.into;
  len : length l.into ≡ length l.fn.into;
  waits : AsWaiting l.self.pending l.at l.done l.into;
  told : IsTrue g.M.Medium.shown.tells_words → (k : ℕ) → k < l.done → slice_index l.into k ≡ slice_index (with_run l.fn.self.pending (g.M.Medium.shown.words l.fn.self.medium)) (l.at + k);
  pending : HandedOver l.fn.self.pending l.self.pending;
  none : IsTrue (g.M.Medium.missing l.fn.self.medium) → l.done ≡ 0;
  faults : IsFalse (g.M.Medium.missing l.fn.self.medium) → g.M.Medium.shown.faults l.self.medium ≡ g.M.Medium.shown.faults l.fn.self.medium;
  only : OnlyReads (shown_by_cached g.M.Medium.shown) l.fn.self l.self;
  missing : g.M.Medium.missing l.self.medium ≡ g.M.Medium.missing l.fn.self.medium;
  failed : has_failed_sync l.self ≡ has_failed_sync l.fn.self;
}

abbrev pub decreases-loop-done : goal.decreases-loop-done
decreases-loop-done g l = length l.initial.into - l.done
