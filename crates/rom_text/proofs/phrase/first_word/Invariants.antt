use Rattle.std.proofs.Common.{length, ◌-◌, ◌≢◌, ℕ, ◌<◌, ◌≤◌, slice_index}
use Rattle.rom_text.proofs.phrase.first_word.Given as goal

-- no space stands before
abbrev pub invariant-loop-len : goal.invariant-loop-len
invariant-loop-len l = record {
  within : l.len ≤ length l.line;
  before : (k : ℕ) → k < l.len → slice_index l.line k ≢ 32;
}

abbrev pub decreases-loop-len : goal.decreases-loop-len
decreases-loop-len l = length l.line - l.len
