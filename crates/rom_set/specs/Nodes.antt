-- The set's nodes in the words of a region.
use Rattle.std.specs.Prelude.{ℕ, List}
use Rattle.std.specs.Ordering.{nat_cmp}
use Rattle.std.specs.FinSet as set
use Rattle.rom_model.specs.Links.{AreNodes}
use Rattle.rom_model.specs.Region.{IsSet}

-- a set in the words
pub record HoldsSet (n : ℕ) (words : List ℕ) : Type 0 where
  pub blocks : List ℕ
  pub members : set.FinSet nat_cmp
  pub set : IsSet n words blocks members
  pub are : AreNodes n blocks
