-- The object: keys with bytes, and the blocks in which these stand. A block is told by its node in the
-- allocator's tree. The state says which blocks each key has. So `blob_step` says exactly when `full` comes,
-- though that depends on the calls before.
use Rattle.std.specs.Prelude.{ℕ, zero, suc, ◌+◌, ◌≤◌, ◌-◌, ◌*◌, ◌^◌, ◌==◌, ◌||◌, ◌&&◌, not, Bool, false, nat_le, nat_lt, List, [], ◌∷◌, ◌++◌, map, length, sum, max, ◌/◌, Option, Some, None, option_map, is_some, if◌then◌else◌}
use Rattle.std.specs.Ordering.{nat_cmp}
use Rattle.std.specs.FinMap as finite
use Rattle.rom_model.specs.Blocks.{up, taking}
use Rattle.rom_model.specs.Chains.{times}
use Rattle.rom_bucket.specs.Buckets.{keys_beside}
use Rattle.rom_blob_region.specs.declared.call.BlobCall.{BlobCall}
use Rattle.rom_blob_region.specs.declared.call.BlobCall.TheVariants.{Set, Cut}
use Rattle.rom_blob_region.specs.declared.call.BlobQuery.{BlobQuery}
use Rattle.rom_blob_region.specs.declared.call.BlobQuery.TheVariants.{Fetch, Size}
use Rattle.rom_blob_region.specs.declared.call.BlobReply.{BlobReply}
use Rattle.rom_blob_region.specs.declared.call.BlobReply.TheVariants as reply
use Rattle.rom_blob_region.specs.declared.call.BlobAnswer.{BlobAnswer}
use Rattle.rom_blob_region.specs.declared.call.BlobAnswer.TheVariants as answer

-- what a key has: its bytes, the block of its node, and that of its bytes, where it has some
pub record Blob : Type 0 where
  pub bytes : List ℕ
  pub node : ℕ
  pub body : Option ℕ

-- the keys with what each has
abbrev pub BlobState : Type 0
BlobState = finite.FinMap nat_cmp Blob

-- no key
abbrev pub no_blobs : BlobState
no_blobs = finite.empty

-- the least order of a block with room for so many bytes; a block of order 0 has four words
abbrev pub order_for : ℕ → ℕ
order_for len = if nat_le len 32 then 0 else if nat_le len 64 then 1 else if nat_le len 128 then 2 else 3

-- a block, where there is one
abbrev pub some_block : Option ℕ → List ℕ
some_block None = []
some_block (Some x) = x ∷ []

-- the blocks of a key
abbrev pub blocks_in : Blob → List ℕ
blocks_in blob = blob.node ∷ some_block blob.body

-- those of these keys
abbrev pub all_in : List (ℕ × Blob) → List ℕ
all_in [] = []
all_in (e ∷ entries) = blocks_in e.1 ++ all_in entries

-- the bucket table, which is node 16, and these blocks
abbrev pub taken_with : List ℕ → ℕ → Bool
taken_with blocks i = (i == 16) || nat_lt 0 (times i blocks)

-- the blocks that are taken in a state
abbrev pub blocks_taken : BlobState → ℕ → Bool
blocks_taken s = taken_with (all_in (finite.entries s))

-- whether some number below passes
abbrev pub any_below : ℕ → (ℕ → Bool) → Bool
any_below zero test = false
any_below (suc m) test = test m || any_below m test

-- whether a unit lies in one of these blocks
abbrev pub lies_in : ℕ → (ℕ → Bool) → ℕ → Bool
lies_in n blocks u = any_below (n + 1) (λ k. blocks (up k u))

-- whether none of the units of a block does
abbrev pub is_free : ℕ → (ℕ → Bool) → ℕ → ℕ → Bool
is_free n blocks order i = not (any_below (2 ^ order) (λ r. lies_in n blocks (i * 2 ^ order + r)))

-- the first number that passes, of so many from that one on
abbrev pub first_number_where : (ℕ → Bool) → ℕ → ℕ → Option ℕ
first_number_where test at zero = None
first_number_where test at (suc many) = if test at then Some at else first_number_where test (at + 1) many

-- the first free block of that order, or none
abbrev pub lowest : ℕ → (ℕ → Bool) → ℕ → Option ℕ
lowest n blocks order = first_number_where (is_free n blocks order) (2 ^ (n - order)) (2 ^ (n - order))

-- where bytes go that have no block yet, or none where no block is free: nowhere, or to the lowest
abbrev pub new_body : ℕ → (ℕ → Bool) → List ℕ → Option (Option ℕ)
new_body n blocks [] = Some None
new_body n blocks (b ∷ bytes) = option_map Some (lowest n blocks (order_for (length (b ∷ bytes))))

-- where the bytes go of a key that has some: they stay in their block where it has the same order
abbrev pub next_body : ℕ → (ℕ → Bool) → Blob → List ℕ → Option (Option ℕ)
next_body n blocks was [] = Some None
next_body n blocks was (b ∷ bytes) =
    if is_some was.body && (order_for (length was.bytes) == order_for (length (b ∷ bytes))) then Some was.body else option_map Some (lowest n blocks (order_for (length (b ∷ bytes))))

-- these blocks and perhaps one more
abbrev pub taking_some : Option ℕ → (ℕ → Bool) → ℕ → Bool
taking_some None blocks = blocks
taking_some (Some x) blocks = taking x blocks

-- a new key, where this is the lowest unit for its node
abbrev pub set_node : BlobState → ℕ → List ℕ → Option ℕ → Option ℕ → BlobState × BlobReply
set_node s key bytes body None = (s, reply.Full)
set_node s key bytes body (Some node) = (finite.insert s key record { bytes = bytes; node = node; body = body }, reply.New)

-- a new key, where this is the block for its bytes
abbrev pub set_new : ℕ → BlobState → ℕ → List ℕ → Option (Option ℕ) → BlobState × BlobReply
set_new n s key bytes None = (s, reply.Full)
set_new n s key bytes (Some body) = set_node s key bytes body (lowest n (taking_some body (blocks_taken s)) 0)

-- a key that had bytes, where this is the block for the new ones
abbrev pub set_again : BlobState → ℕ → List ℕ → Blob → Option (Option ℕ) → BlobState × BlobReply
set_again s key bytes was None = (s, reply.Full)
set_again s key bytes was (Some body) = (finite.insert s key record { bytes = bytes; node = was.node; body = body }, reply.Was (length was.bytes))

-- a key gets bytes, where it had these before
abbrev pub set_blob : ℕ → BlobState → ℕ → List ℕ → Option Blob → BlobState × BlobReply
set_blob n s key bytes None = set_new n s key bytes (new_body n (blocks_taken s) bytes)
set_blob n s key bytes (Some was) = set_again s key bytes was (next_body n (blocks_taken s) was bytes)

-- a key goes, where it had these
abbrev pub cut_blob : BlobState → ℕ → Option Blob → BlobState × BlobReply
cut_blob s key None = (s, reply.NoPrior)
cut_blob s key (Some was) = (finite.remove s key, reply.Was (length was.bytes))

-- what a call leaves in a heap of order n, and what it is told
abbrev pub blob_step : ℕ → BlobState → ℕ → BlobCall → BlobState × BlobReply
blob_step n s count (Set key bytes) = set_blob n s key bytes (finite.get s key)
blob_step n s count (Cut key) = cut_blob s key (finite.get s key)

-- how many units the block of so many bytes has
abbrev pub body_units : ℕ → ℕ
body_units len = if len == 0 then 0 else 2 ^ order_for len

-- how many units all blocks of a key have
abbrev pub units_of : Blob → ℕ
units_of blob = 1 + body_units (length blob.bytes)

-- how many units the blocks of all keys have
abbrev pub units_in : BlobState → ℕ
units_in s = sum (map (λ e. units_of e.1) (finite.entries s))

-- how many blocks of that order the bucket table lies in, which has 2 ^ (n - 4) units
abbrev pub table_blocks : ℕ → ℕ → ℕ
table_blocks n order = max 1 (2 ^ (n - 4) / 2 ^ order)

-- The blocks of the keys have so many units that there may be no block for so many bytes, or none for a
-- new key's node. This can be reckoned from the lengths of bytes alone. Each unit is counted as if no other
-- lay in the same block, so the bound is weak for long bytes: in a heap of order 4 it always holds for more
-- than 128. A closer bound would have to say where blocks lie, as `blob_step` does.
abbrev pub IsCrowded : ℕ → BlobState → ℕ → Type 0
IsCrowded n s len = 2 ^ (n - order_for len) ≤ units_in s + table_blocks n (order_for len) + 1

-- what is known of the state where a call is refused: one that takes a key out never is
abbrev pub MayRefuse : ℕ → BlobState → BlobCall → Type 0
MayRefuse n s (Set key bytes) = IsCrowded n s (length bytes)
MayRefuse n s (Cut key) = ⊥

-- what is told of a key's bytes
abbrev pub bytes_told : Option Blob → BlobAnswer
bytes_told None = answer.Missing
bytes_told (Some blob) = answer.Bytes blob.bytes

-- what a query is told
abbrev pub blob_tell : BlobState → BlobQuery → BlobAnswer
blob_tell s (Fetch key) = bytes_told (finite.get s key)
blob_tell s Size = answer.Keys (finite.len s)

-- how many loads a query makes at most, in a heap of order n
abbrev pub blob_cost : ℕ → BlobState → BlobQuery → ℕ
blob_cost n s (Fetch key) = 4 + 2 * keys_beside n s key + 32
blob_cost n s Size = 1
