-- The elements of a state, in the order in which a script gives them to a heap.
use Rattle.std.specs.Prelude.{ℕ, ◌^◌, ◌<◌, ◌==◌, List, [], ◌∷◌, map, length, Option, Some, None, if◌then◌else◌}
use Rattle.std.specs.List.{flat_map}
use Rattle.std.specs.FinMap as finite
use Rattle.rom_blob_region.specs.State.{Blob, BlobState, body_units}
use Rattle.rom_blob_region.specs.Texts.{AreBytes}
use Rattle.rom_blob_carry.specs.declared.elements.kept.Kept.{Kept}

-- a key with its bytes
abbrev pub Entry : Type 0
Entry = ℕ × List ℕ

-- one that is kept
abbrev pub entry_of : Kept → Entry
entry_of kept = (kept.key, kept.bytes.items)

-- those that are kept
abbrev pub entries_in : List Kept → List Entry
entries_in kept = map entry_of kept

-- the key has at most 64 bits, and the bytes are at most 256
abbrev pub EntryFits : Entry → Type 0
EntryFits e = (e.0 < 2 ^ 64) × AreBytes e.1

-- a key with its bytes, where it has some block of so many units for them; 0 is for no bytes
abbrev pub one_sized : ℕ → ℕ → Option Blob → List Entry
one_sized units key None = []
one_sized units key (Some blob) = if body_units (length blob.bytes) == units then (key, blob.bytes) ∷ [] else []

-- those of these keys
abbrev pub sized_in : ℕ → BlobState → List ℕ → List Entry
sized_in units s keys = flat_map (λ key. one_sized units key (finite.get s key)) keys

-- how many units the block of a key's bytes may have, the largest first
abbrev pub block_sizes : List ℕ
block_sizes = 8 ∷ 4 ∷ 2 ∷ 1 ∷ 0 ∷ []

-- these keys with their bytes, those with large blocks first
abbrev pub all_sized : BlobState → List ℕ → List Entry
all_sized s keys = flat_map (λ units. sized_in units s keys) block_sizes

-- The elements of a state: its keys with their bytes. Those whose bytes have large blocks come first, and where the blocks have one size the keys rise.
abbrev pub elements_of : BlobState → List Entry
elements_of s = all_sized s (finite.keys s)
