use Rattle.std.proofs.Common.{◌-◌, ◌≡◌, ◌≤◌, length}
use Rattle.rom_device.specs.FileMedium.{faults_of}
use Rattle.rom_steady.proofs.watched_file.WatchedFileWatched.read_words.Given as goal

-- the words so far were read
abbrev pub invariant-loop-done : goal.invariant-loop-done
invariant-loop-done l = record {
  within : l.done ≤ l.len;
  as_long : length l.into ≡ length l.fn.into;
  words : l.self.words ≡ l.fn.self.words;
  faults : faults_of l.self.medium ≡ faults_of l.fn.self.medium;
}

abbrev pub decreases-loop-done : goal.decreases-loop-done
decreases-loop-done l = l.len - l.done
