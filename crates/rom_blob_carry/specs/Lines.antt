-- The lines that give a heap its elements.
use Rattle.std.specs.Prelude.{◌≡◌, ℕ, ◌+◌, ◌*◌, ◌<◌, ◌≤◌, List, ◌∷◌, ◌++◌, codes, decimal, map}
use Rattle.std.proofs.Common.{refl, arith}
use Rattle.rom_carry.specs.Carried.{Bounds}
use Rattle.rom_blob_region.specs.Texts.{bytes_text}
use Rattle.rom_blob_carry.specs.Elements.{Entry, entries_in}
use Rattle.rom_blob_carry.specs.declared.elements.all.BlobElements.{BlobElements}

-- the line that gives a key its bytes, without LF
abbrev pub set_line : Entry → List ℕ
set_line e = codes "set " ++ (decimal e.0 ++ 32 ∷ bytes_text e.1)

-- those of elements
abbrev pub lines_in : BlobElements → List (List ℕ)
lines_in elements = map set_line (entries_in elements.kept.items)

-- A line has at most 537 bytes, as a long key with 256 bytes has. A part has 1,920 lines at most.
abbrev pub blob_bounds : Bounds
blob_bounds = record { longest = 537; part = 1920; parts = 32 }

-- how many lines a part has, as the code has it
pub blob_part_is : blob_bounds.part ≡ 1920
blob_part_is = refl

-- a part is within what a script may have
pub blob_part_fits : (0 < blob_bounds.part) × (blob_bounds.part * (blob_bounds.longest + 1) ≤ 1048576) × (blob_bounds.part ≤ 131072)
blob_part_fits = (omega arith, omega arith, omega arith)

-- all parts have no more lines than a heap has keys at most
pub blobs_at_most : (blob_bounds.part * blob_bounds.parts ≤ 61440) × (blob_bounds.parts ≤ 64)
blobs_at_most = (omega arith, omega arith)
