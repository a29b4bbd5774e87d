use Rattle.std.proofs.Common.{◌≡◌, ◌∷◌, ℕ, ◌<◌, ◌≤◌, length, slice_index}
use Rattle.rom_blob_region.specs.Bytes.{words_from_bytes}
use Rattle.rom_blob.proofs.codes.put_set_words.Given as goal

-- the words of the bytes so far are there
abbrev pub invariant-loop-i : goal.invariant-loop-i
invariant-loop-i l = record {
  so_far : l.words ≡ 1 ∷ l.key ∷ length l.bytes ∷ words_from_bytes l.bytes l.i;
  within : l.i ≤ l.i-end;
  small : 0 < l.i → (k : ℕ) → slice_index l.bytes k < 256;
}
