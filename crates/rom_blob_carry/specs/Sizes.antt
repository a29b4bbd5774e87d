-- The sizes of a heap.
use Rattle.std.specs.Prelude.{◌≡◌, ℕ, ◌+◌, ◌-◌, ◌*◌, ◌/◌, ◌^◌, List, [], ◌∷◌, ◌++◌, codes, decimal, length}
use Rattle.std.specs.List.{sum_by}
use Rattle.std.specs.FinMap as finite
use Rattle.rom_blob_region.specs.State.{BlobState, body_units, units_in}
use Rattle.rom_blob_region.specs.Region.{len_at}
use Rattle.rom_carry.specs.Gauges.{gauge_text}
use Rattle.rom_blob_carry.specs.declared.sizes.Sizes.{Sizes}
use Rattle.rom_blob_carry.specs.declared.totals.Measure.{Measure}
use Rattle.rom_blob_carry.specs.declared.totals.Measure.TheVariants.{Bytes, Units}

-- what is counted of a key with so many bytes
abbrev pub amount : Measure → ℕ → ℕ
amount Bytes len = len
amount Units len = 1 + body_units len

-- what is counted of the key whose node is that unit
abbrev pub counted_at : Measure → ℕ → List ℕ → ℕ → ℕ
counted_at measure n words b = amount measure (len_at n words b)

-- the sum over the keys of a state
abbrev pub total_of : Measure → BlobState → ℕ
total_of measure s = sum_by (λ e. amount measure (length e.1.bytes)) (finite.entries s)

-- how many bytes the keys have, all together
abbrev pub bytes_in : BlobState → ℕ
bytes_in s = total_of Bytes s

-- How many units are free beside the bucket table and the blocks of the keys. A unit has four words.
abbrev pub free_units : ℕ → BlobState → ℕ
free_units n s = 15 * 2 ^ (n - 4) - units_in s

-- how many units are free in a new heap
abbrev pub room_in : ℕ → ℕ
room_in n = 15 * 2 ^ (n - 4)

-- These are the sizes of a heap of order n.
pub record AreSizes (n : ℕ) (s : BlobState) (count : ℕ) (sizes : Sizes) : Type 0 where
  pub count_is : sizes.count ≡ count
  pub keys : sizes.keys ≡ finite.len s
  pub bytes : sizes.bytes ≡ bytes_in s
  pub free : sizes.free ≡ free_units n s

-- The lines that tell the sizes of a heap: its order, how many updates it counted, how many keys with how many bytes it has, and how many units are free.
abbrev pub sizes_text : ℕ → BlobState → ℕ → List ℕ
sizes_text n s count =
    codes "order " ++ (decimal n ++ (codes "\ncount " ++ (decimal count ++ (codes "\nkeys " ++ (decimal (finite.len s) ++ (codes " bytes " ++ (decimal (bytes_in s) ++ (codes "\nfree " ++ (decimal (free_units n s) ++ 10 ∷ [])))))))))

-- What a monitor watches: how many keys and bytes there are, and how many units are free, also in per cent of those of a new heap.
abbrev pub measures_text : ℕ → BlobState → List ℕ
measures_text n s =
    gauge_text (codes "keys") (finite.len s) ++ (gauge_text (codes "bytes") (bytes_in s) ++ (gauge_text (codes "free_units") (free_units n s) ++ gauge_text (codes "free_percent") (free_units n s * 100 / room_in n)))
