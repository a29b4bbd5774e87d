use Rattle.std.proofs.Common.{◌≡◌, ℕ, ◌++◌, ◌<◌, ◌≤◌, length, take, slice_index}
use Rattle.std.specs.List.{flat_map}
use Rattle.rom_blob_region.specs.Texts.{digits_of}
use Rattle.rom_blob.proofs.bytes.read_digits.Given as goal

-- the bytes so far have the digits before the rest
abbrev pub invariant-loop-rest : goal.invariant-loop-rest
invariant-loop-rest l = record {
  few : l.len ≤ 256;
  cells : length l.bytes ≡ 256;
  read : l.digits ≡ flat_map digits_of (take l.len l.bytes) ++ l.rest;
  small : (k : ℕ) → slice_index l.bytes k < 256;
}

abbrev pub decreases-loop-rest : goal.decreases-loop-rest
decreases-loop-rest l = length l.rest
