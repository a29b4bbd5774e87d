-- The chain that a walk goes along.
use Rattle.std.specs.Prelude.{ℕ, ◌^◌, ◌<◌, ◌≤◌, List, length}
use Rattle.rom_model.specs.Chains.{Chain, times}

-- From that link word on some blocks of the region are reached, and no more than it has. The next link of a block is its word `next`.
pub record HoldsChain (order : ℕ) (words : List ℕ) (link next : ℕ) : Type 0 where
  pub blocks : List ℕ
  pub are : Chain order words link next blocks
  pub within : (b : ℕ) → 0 < times b blocks → b < 2 ^ order
  pub few : length blocks ≤ 2 ^ order
