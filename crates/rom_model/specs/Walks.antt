-- How many keys a walk to a key passes, and so how many loads a query makes. A caller can know the number
-- from the state. Where keys rise, as many stand before the key in its chain: a walk that goes on behind the
-- key, or goes back, would make more loads than the bound.
use Rattle.std.specs.Prelude.{ℕ, ◌+◌, ◌*◌, ◌==◌, ◌&&◌, nat_lt, length, filter, is_some, if◌then◌else◌}
use Rattle.std.specs.Ordering.{nat_cmp}
use Rattle.std.specs.FinSet as set
use Rattle.std.specs.FinMap as map
use Rattle.rom_model.specs.declared.call.Query.{Query}
use Rattle.rom_model.specs.declared.call.Query.TheVariants.{Has, Get, Peek, Len, Total, Fresh}
use Rattle.rom_model.specs.State.{State}
use Rattle.rom_model.specs.Region.{buckets, bucket_of}

-- of the set's keys those below this one
abbrev pub keys_below : set.FinSet nat_cmp → ℕ → ℕ
keys_below members key = length (filter (λ k. nat_lt k key) (set.items members))

-- of the keys in the bucket of this one those below it
abbrev pub keys_under : {V : Type 0} → ℕ → map.FinMap nat_cmp V → ℕ → ℕ
keys_under n kept key = length (filter (λ k. (bucket_of n k == bucket_of n key) && nat_lt k key) (map.keys kept))

-- and those above it
abbrev pub keys_over : {V : Type 0} → ℕ → map.FinMap nat_cmp V → ℕ → ℕ
keys_over n kept key = length (filter (λ k. (bucket_of n k == bucket_of n key) && nat_lt key k) (map.keys kept))

-- How many loads it takes at the node at which the walk to a key ends: of its key and its value where the
-- key is there, of its key alone where it has another, and none at the chain's end.
abbrev pub end_loads : {V : Type 0} → ℕ → map.FinMap nat_cmp V → ℕ → ℕ
end_loads n kept key = if is_some (map.get kept key) then 2 else if nat_lt 0 (keys_over n kept key) then 1 else 0

-- How many loads a query makes at most, in a heap of order n.
abbrev pub cost : ℕ → State → Query → ℕ
cost n s (Has k) = 2 + 2 * keys_below s.members k
cost n s (Get k) = 2 + 2 * keys_under n s.pairs k + end_loads n s.pairs k
cost n s Peek = 2
cost n s Len = 3
cost n s Total = 1 + buckets n + 2 * map.len s.pairs
cost n s (Fresh place) = 1 + buckets n + 2 * map.len s.pairs
