-- The words that stand for calls and replies.
use Rattle.std.specs.Prelude.{ℕ, ◌==◌, List, [], ◌∷◌, length, Option, Some, None, option_map, if◌then◌else◌}
use Rattle.rom_blob_region.specs.Bytes.{bytes_in, words_for, words_from_bytes}
use Rattle.rom_blob_region.specs.declared.call.BlobCall.{BlobCall}
use Rattle.rom_blob_region.specs.declared.call.BlobCall.TheVariants.{Set, Cut}
use Rattle.rom_blob_region.specs.declared.call.BlobReply.{BlobReply}
use Rattle.rom_blob_region.specs.declared.call.BlobReply.TheVariants.{New, Was, Full, NoPrior}

-- bytes stand behind their number, in as few words as hold them
abbrev pub blob_call_words : BlobCall → List ℕ
blob_call_words (Set key bytes) = 1 ∷ key ∷ length bytes ∷ words_from_bytes bytes (words_for (length bytes))
blob_call_words (Cut key) = 2 ∷ key ∷ []

-- the call that gives a key bytes, where these are the words of some, behind their number
abbrev pub set_blob_call : ℕ → List ℕ → Option BlobCall
set_blob_call key [] = None
set_blob_call key (len ∷ words) = option_map (Set key) (bytes_in words len)

-- the call that takes a key out, where no word is left
abbrev pub cut_call : ℕ → List ℕ → Option BlobCall
cut_call key [] = Some (Cut key)
cut_call key (word ∷ words) = None

-- the call that the words are those of
abbrev pub blob_call_from_words : List ℕ → Option BlobCall
blob_call_from_words [] = None
blob_call_from_words (tag ∷ []) = None
blob_call_from_words (tag ∷ key ∷ words) = if tag == 1 then set_blob_call key words else if tag == 2 then cut_call key words else None

-- the words of a reply
abbrev pub blob_reply_words : BlobReply → List ℕ
blob_reply_words New = 1 ∷ []
blob_reply_words (Was len) = 2 ∷ len ∷ []
blob_reply_words Full = 3 ∷ []
blob_reply_words NoPrior = 4 ∷ []

-- the reply that the words are those of
abbrev pub blob_reply_from_words : List ℕ → Option BlobReply
blob_reply_from_words [] = None
blob_reply_from_words (tag ∷ []) = if tag == 1 then Some New else if tag == 3 then Some Full else if tag == 4 then Some NoPrior else None
blob_reply_from_words (tag ∷ len ∷ []) = if tag == 2 then Some (Was len) else None
blob_reply_from_words (tag ∷ len ∷ word ∷ words) = None
