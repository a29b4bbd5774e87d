-- What the lines of a script ask keys with bytes for.
use Rattle.std.specs.Prelude.{◌≡◌, ℕ, ◌^◌, ◌<◌, List, [], ◌∷◌, codes, decimal}
use Rattle.rom_model.specs.declared.line.Step.{Step}
use Rattle.rom_model.specs.declared.line.Step.TheVariants.{Update, Ask, Unread}
use Rattle.rom_text.specs.Phrases.{line_words}
use Rattle.rom_blob_region.specs.Texts.{AreBytes, bytes_text}
use Rattle.rom_blob_region.specs.declared.call.BlobCall.{BlobCall}
use Rattle.rom_blob_region.specs.declared.call.BlobCall.TheVariants as call
use Rattle.rom_blob_region.specs.declared.call.BlobQuery.{BlobQuery}
use Rattle.rom_blob_region.specs.declared.call.BlobQuery.TheVariants as query

-- The words with which a call is written: its name, the key in digits, and its bytes, where it has some to give.
abbrev pub blob_call_line : BlobCall → List (List ℕ)
blob_call_line (call.Set key bytes) = codes "set" ∷ decimal key ∷ bytes_text bytes ∷ []
blob_call_line (call.Cut key) = codes "cut" ∷ decimal key ∷ []

-- those of a query
abbrev pub blob_query_line : BlobQuery → List (List ℕ)
blob_query_line (query.Fetch key) = codes "fetch" ∷ decimal key ∷ []
blob_query_line query.Size = codes "size" ∷ []

-- the key has at most 64 bits, and the bytes are at most 256
abbrev pub BlobCallFits : BlobCall → Type 0
BlobCallFits (call.Set key bytes) = (key < 2 ^ 64) × AreBytes bytes
BlobCallFits (call.Cut key) = key < 2 ^ 64

-- a query's key has at most 64 bits
abbrev pub BlobQueryFits : BlobQuery → Type 0
BlobQueryFits (query.Fetch key) = key < 2 ^ 64
BlobQueryFits query.Size = Unit {0}

-- these words are those of this call, whose key and bytes fit
abbrev pub IsBlobCall : List (List ℕ) → BlobCall → Type 0
IsBlobCall words call = BlobCallFits call × (words ≡ blob_call_line call)

-- these words are those of no call whose key and bytes fit
abbrev pub IsNoCall : List (List ℕ) → Type 0
IsNoCall words = (call : BlobCall) → BlobCallFits call → words ≡ blob_call_line call → ⊥

-- these words are those of this query, whose key fits
abbrev pub IsQuery : List (List ℕ) → BlobQuery → Type 0
IsQuery words query = BlobQueryFits query × (words ≡ blob_query_line query)

-- these words are those of no query whose key fits
abbrev pub IsNoQuery : List (List ℕ) → Type 0
IsNoQuery words = (query : BlobQuery) → BlobQueryFits query → words ≡ blob_query_line query → ⊥

-- The words of the line, which are what stands between its spaces, are those of the step, or of no call and of no query.
abbrev pub ReadsBlobs : List ℕ → Step BlobCall BlobQuery → Type 0
ReadsBlobs line (Update call) = IsBlobCall (line_words line) call
ReadsBlobs line (Ask query) = IsQuery (line_words line) query
ReadsBlobs line Unread = IsNoCall (line_words line) × IsNoQuery (line_words line)
