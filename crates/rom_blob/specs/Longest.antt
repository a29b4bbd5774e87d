-- How long a line is that asks for something: 537 bytes at most, which a long key with 256 bytes has.
use Rattle.std.specs.Prelude.{◌≡◌, ℕ, ◌*◌, ◌≤◌, ◌<◌, List, [], ◌∷◌, length, decimal}
use Rattle.std.specs.List.{flat_map, join_with_byte}
use Rattle.std.proofs.Common.{ap, sym, refl, ◌∙◌, arith, length-append}
use Rattle.std.proofs.lemmas.List.Splits.{join_with_byte-slice_split}
use Rattle.rom_model.specs.declared.line.Step.TheVariants.{Unread}
use Rattle.rom_text.proofs.Numbers.{number_short}
use Rattle.rom_text.specs.Phrases.{line_words}
use Rattle.rom_text.specs.declared.short.TheConstants.{LONGEST}
use Rattle.rom_blob_region.specs.Texts.{AreBytes, bytes_text, digits_of}
use Rattle.rom_blob_region.specs.declared.call.BlobCall.{BlobCall}
use Rattle.rom_blob_region.specs.declared.call.BlobCall.TheVariants as call
use Rattle.rom_blob_region.specs.declared.call.BlobQuery.{BlobQuery}
use Rattle.rom_blob_region.specs.declared.call.BlobQuery.TheVariants as query
use Rattle.rom_blob.specs.Lines.{BlobCallFits, BlobQueryFits, ReadsBlobs, blob_call_line, blob_query_line}

-- a line is its words with a space between each two
joined : (line : List ℕ) (words : List (List ℕ)) → line_words line ≡ words → line ≡ join_with_byte 32 words
joined line words are = sym (join_with_byte-slice_split 32 line) ∙ ap (join_with_byte 32) are

digits_long : (bytes : List ℕ) → length (flat_map digits_of bytes) ≡ 2 * length bytes
digits_long [] = refl
digits_long (b ∷ bytes) = omega (arith, digits_long bytes)

bytes_short : (bytes : List ℕ) → AreBytes bytes → length (bytes_text bytes) ≤ 512
bytes_short [] are = omega arith
bytes_short (b ∷ bytes) are = omega (arith, digits_long bytes, are.0)

call_short : (c : BlobCall) → BlobCallFits c → length (join_with_byte 32 (blob_call_line c)) ≤ 537
call_short (call.Set key bytes) fits = omega (arith, length-append (decimal key) (32 ∷ bytes_text bytes), number_short key fits.0, bytes_short bytes fits.1)
call_short (call.Cut key) fits = omega (arith, number_short key fits)

query_short : (q : BlobQuery) → BlobQueryFits q → length (join_with_byte 32 (blob_query_line q)) ≤ 26
query_short (query.Fetch key) fits = omega (arith, number_short key fits)
query_short query.Size fits = omega arith

-- a longer line has the words of no step
pub long_unread : (line : List ℕ) → LONGEST < length line → ReadsBlobs line Unread
long_unread line long = (
  λ c fits are. absurd (omega (arith, long, ap length (joined line (blob_call_line c) are), call_short c fits)),
  λ q fits are. absurd (omega (arith, long, ap length (joined line (blob_query_line q) are), query_short q fits)),
)
