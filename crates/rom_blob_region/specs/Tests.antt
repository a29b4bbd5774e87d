-- The tests of the words of a region, in the order in which they are made. A node is told by the number
-- of its unit, and nodes that a walk reached are listed with the last first.
use Rattle.std.specs.Prelude.{ℕ, ◌+◌, ◌/◌, ◌%◌, ◌^◌, Bool, ◌==◌, ◌||◌, nat_le, List, [], ◌∷◌, ◌++◌, length, slice_index}
use Rattle.rom_model.specs.History.{LAST_COUNT}
use Rattle.rom_model.specs.Blocks.{block_of}
use Rattle.rom_model.specs.Chains.{times, each_word}
use Rattle.rom_model.specs.Region.{bucket_of}
use Rattle.rom_model.specs.declared.unfit.Rule.TheVariants.{Root, Pad, Count, Bucket, Repeat}
use Rattle.rom_model.specs.Tests.{Test, test, is_word, are_zero}
use Rattle.rom_blob_region.specs.Region.{len_at, data_at}

-- The words up to the tree but for the number of keys, by rising offsets: the object's kind, the
-- version's number, the count of updates, zeros from the offset 4 to 7, where the bucket table begins,
-- and zeros from 9 to 16.
abbrev pub blob_root_tests : ℕ → List ℕ → List Test
blob_root_tests n words =
    is_word words 0 Root 2
    ∷ is_word words 1 Root 1 ∷ test 2 Root (nat_le (slice_index words 2) LAST_COUNT) ∷ (are_zero words 4 4 Root ++ is_word words 8 Root (block_of n 0) ∷ are_zero words 9 8 Root)

-- the key of a node, which is the first of its words
abbrev pub blob_key_of : ℕ → List ℕ → ℕ → ℕ
blob_key_of n words b = slice_index words (block_of n b + 0)

-- The tests of a node behind these nodes of its bucket's chain, before those of its bytes: it has at most
-- 256 of them, and its key stands in its own bucket, and in none of the nodes before.
abbrev pub key_tests : ℕ → List ℕ → ℕ → List ℕ → ℕ → List Test
key_tests n words i before b =
    test (block_of n b + 1) Count (nat_le (len_at n words b) 256)
    ∷ test (block_of n b) Bucket (bucket_of n (blob_key_of n words b) == i) ∷ test (block_of n b) Repeat (times (blob_key_of n words b) (each_word n words 0 before) == 0) ∷ []

-- Whether the last word of so many bytes from that offset on has zeros behind them. It has other bytes
-- only where 8 does not divide their number.
abbrev pub ends_bare : List ℕ → ℕ → ℕ → Bool
ends_bare words at len = (len % 8 == 0) || (slice_index words (at + len / 8) / 256 ^ (len % 8) == 0)

-- the test of a node's bytes, by their last word
abbrev pub end_tests : ℕ → List ℕ → ℕ → List Test
end_tests n words b = test (data_at n words b + len_at n words b / 8) Pad (ends_bare words (data_at n words b) (len_at n words b)) ∷ []

-- after the walks of all buckets reached these nodes: the number of keys is theirs
abbrev pub size_tests : List ℕ → List ℕ → List Test
size_tests words units = is_word words 3 Count (length units) ∷ []
