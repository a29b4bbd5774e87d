use Rattle.std.proofs.Common.{length, ◌-◌, ◌≡◌, ◌+◌, ◌<◌, ◌≤◌, ℕ, IsTrue, slice_index}
use Rattle.rom_steady.specs.Watched.{IsLater, StoodAt}
use Rattle.rom_steady.proofs.region.are_words.Given as goal

-- the words so far stood there
abbrev pub invariant-loop-from : goal.invariant-loop-from
invariant-loop-from g l = record {
  within : l.from ≤ length l.expected;
  found : IsTrue g.W.Watched.shown.tells → (k : ℕ) → k < l.from → StoodAt g.W.Watched.shown l.fn.words l.words (l.fn.at + k) (slice_index l.expected k);
  later : IsLater g.W.Watched.shown l.fn.words l.words;
  faults : g.W.Watched.shown.faults l.words ≡ g.W.Watched.shown.faults l.fn.words;
}

abbrev pub decreases-loop-from : goal.decreases-loop-from
decreases-loop-from g l = length l.expected - l.from
