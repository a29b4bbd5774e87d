-- A run of words within a list: where it begins, and how many words it has.
use Rattle.std.specs.Prelude.{ℕ, ◌+◌, ◌≤◌, List, length, take, drop, Option, IsSome}

-- the words of a run
abbrev pub run_of : List ℕ → ℕ → ℕ → List ℕ
run_of words from many = take many (drop from words)

-- A run stands within the words, has at most so many of them, and they are read as something.
pub record IsRun {T : Type 0} (read : List ℕ → Option T) (most : ℕ) (words : List ℕ) (from many : ℕ) : Type 0 where
  pub within : from + many ≤ length words
  pub few : many ≤ most
  pub read_as : IsSome (read (run_of words from many))
