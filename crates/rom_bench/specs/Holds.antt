-- The words of a heap in memory.
use Rattle.std.specs.Prelude.{ℕ, ◌≤◌, List}
use Rattle.rom_model.specs.State.{State}
use Rattle.rom_model.specs.Region.{Contents}

-- They are a well-formed region of order 16 that has counted at most so many updates.
pub record HoldsAtMost (words : List ℕ) (most : ℕ) : Type 0 where
  pub state : State
  pub count : ℕ
  pub contents : Contents 16 words state count
  pub within : count ≤ most
