-- Regions that are filled with elements.
use Rattle.std.specs.Prelude.{◌≡◌, ℕ, ◌+◌, ◌≤◌, List}
use Rattle.std.specs.FinMap as map
use Rattle.std.specs.FinSet as set
use Rattle.rom_model.specs.Region.{Contents}
use Rattle.rom_model.specs.Rising.{IsRising}
use Rattle.rom_model.specs.State.{State, cap, live}

-- The region is well-formed, and there is room in it for so many elements more.
pub record HasRoomFor (order : ℕ) (words : List ℕ) (many : ℕ) : Type 0 where
  pub state : State
  pub count : ℕ
  pub contents : Contents order words state count
  pub fits : live state + many ≤ cap order

-- The lists are those of this state: the queue, the numbers of the set, which rise, and the map's keys, which rise.
pub record AreLists (s : State) (values numbers keys : List ℕ) : Type 0 where
  pub queue : values ≡ s.queue
  pub rising : IsRising numbers
  pub members : set.from_list numbers ≡ s.members
  pub keys_are : keys ≡ map.keys s.pairs
