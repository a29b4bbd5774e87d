-- How many frames of a stream there were, by what became of them.
use Rattle.std.specs.Prelude.{◌≡◌, ℕ, ◌+◌, List, min}
use Rattle.rom_model.specs.Faults.{LAST}
use Rattle.rom_frame.specs.declared.frame.Frame.{Frame}
use Rattle.rom_replica.specs.Turns.{early, known}
use Rattle.rom_tail.specs.Batches.{many_next}
use Rattle.rom_tail.specs.declared.tally.Tally.{Tally}

-- So many more of these frames were applied, known and early, from a count on. A number stands still at 2^64 - 1.
pub record CountsFrames (count : ℕ) (frames : List Frame) (old new : Tally) : Type 0 where
  pub applied_is : new.applied ≡ min (old.applied + many_next count frames) LAST
  pub known_is : new.known ≡ min (old.known + known count frames) LAST
  pub early_is : new.early ≡ min (old.early + early count frames) LAST

-- the tally is that of these frames, from a count on
pub record IsTally (count : ℕ) (frames : List Frame) (tally : Tally) : Type 0 where
  pub applied_is : tally.applied ≡ min (many_next count frames) LAST
  pub known_is : tally.known ≡ min (known count frames) LAST
  pub early_is : tally.early ≡ min (early count frames) LAST
