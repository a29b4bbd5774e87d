-- What a sum over all keys of the map counts of each.
use Rattle.std.specs.Prelude.{ℕ, nat_lt, List, if◌then◌else◌}
use Rattle.std.specs.List.{sum_by}
use Rattle.std.specs.FinMap as map
use Rattle.rom_model.specs.State.{State, Stamped}
use Rattle.rom_model.specs.Chains.{stamped_at}
use Rattle.rom_map.specs.declared.sums.Measure.{Measure}
use Rattle.rom_map.specs.declared.sums.Measure.TheVariants.{Value, Fresh}

-- which word of a key's node a measure is taken from
abbrev pub word_of_measure : Measure → ℕ
word_of_measure Value = 1
word_of_measure (Fresh place) = 3

-- which of a key's two numbers a measure is taken from, the value or the stamp
abbrev pub taken_from : Measure → Stamped → ℕ
taken_from Value kept = kept.value
taken_from (Fresh place) kept = kept.stamp

-- what is counted of a key that has that number
abbrev pub amount : Measure → ℕ → ℕ
amount Value word = word
amount (Fresh place) word = if nat_lt place word then 1 else 0

-- what is counted of a key that has this
abbrev pub measured : Measure → Stamped → ℕ
measured measure kept = amount measure (taken_from measure kept)

-- what is counted of the key that stands in a block
abbrev pub counted_at : Measure → ℕ → List ℕ → ℕ → ℕ
counted_at measure n words b = measured measure (stamped_at n words b)

-- the sum over all keys of the map
abbrev pub sum_of : Measure → State → ℕ
sum_of measure s = sum_by (measured measure) (map.values s.pairs)
