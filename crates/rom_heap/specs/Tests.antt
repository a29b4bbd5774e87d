-- The tests of a region's root words, in the order in which they are made. Blocks that a walk reached
-- are listed with the last first.
use Rattle.std.specs.Prelude.{ℕ, nat_le, List, [], ◌∷◌, length, slice_index}
use Rattle.rom_model.specs.History.{LAST_COUNT}
use Rattle.rom_model.specs.Blocks.{block_of}
use Rattle.rom_model.specs.declared.unfit.Rule.TheVariants.{Root, Ends, Count}
use Rattle.rom_model.specs.Tests.{Test, test, is_word, are_zero}
use Rattle.rom_heap.specs.declared.inspect.version.Version.{Version}
use Rattle.rom_heap.specs.declared.inspect.version.Version.TheVariants as version

-- the number of a version, which stands at the offset 1
abbrev pub number_of : Version → ℕ
number_of version.Old = 1
number_of version.Now = 2

-- The words up to the tree that belong to none of the structures, by rising offsets: the object's kind,
-- the version's number, the count of updates, where the bucket table begins, and zeros from the offset
-- 10 to 16.
abbrev pub root_tests : Version → ℕ → List ℕ → List Test
root_tests v n words =
    is_word words 0 Root 1 ∷ is_word words 1 Root (number_of v) ∷ test 2 Root (nat_le (slice_index words 2) LAST_COUNT) ∷ is_word words 8 Root (block_of n 0) ∷ are_zero words 10 7 Root

-- where the last of the blocks begins, or 0 where there is none
abbrev pub newest : ℕ → List ℕ → ℕ
newest n [] = 0
newest n (b ∷ before) = block_of n b

-- after the queue's walk reached these blocks: the tail is the last of them, and the length their number
abbrev pub queue_tests : ℕ → List ℕ → List ℕ → List Test
queue_tests n words blocks = is_word words 4 Ends (newest n blocks) ∷ is_word words 5 Count (length blocks) ∷ []

-- after the set's walk reached these blocks: the size is their number
abbrev pub set_tests : List ℕ → List ℕ → List Test
set_tests words blocks = is_word words 7 Count (length blocks) ∷ []

-- after the walks of all buckets reached these blocks: the map's size is their number
abbrev pub map_tests : List ℕ → List ℕ → List Test
map_tests words blocks = is_word words 9 Count (length blocks) ∷ []
