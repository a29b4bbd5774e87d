-- The place of a number in the set's chain.
use Rattle.std.specs.Prelude.{◌≡◌, ℕ, List, ◌++◌}
use Rattle.rom_model.specs.Chains.{each_word}
use Rattle.rom_model.specs.Rising.{AreBelow, StartsAbove, starts_with}
use Rattle.rom_model.specs.Links.{link_after, first_of}
use Rattle.rom_set.specs.declared.walk.Place.{Place}

-- A walk along the chain of these blocks came to that link word, which leads to that node or is 0: the
-- keys that it passed are below the key.
pub record HasWalkedSet (n : ℕ) (words blocks : List ℕ) (key link node : ℕ) : Type 0 where
  pub front : List ℕ
  pub back : List ℕ
  pub blocks_are : blocks ≡ front ++ back
  pub below : AreBelow key (each_word n words 0 front)
  pub link_is : link ≡ link_after n 6 1 front
  pub node_is : node ≡ first_of n back

-- the walk stopped there at the first node whose key is not below the key, or at the chain's end
pub record IsPlaceInSet (n : ℕ) (words blocks : List ℕ) (key : ℕ) (place : Place) : Type 0 where
  pub walked : HasWalkedSet n words blocks key place.link place.node
  pub above : StartsAbove key (each_word n words 0 walked.back)
  pub found : place.found ≡ starts_with key (each_word n words 0 walked.back)
