-- The laws of the object, which its trait asks for.
use Rattle.std.specs.Prelude.{◌≡◌, ℕ, ◌*◌, ◌≤◌, List, [], ◌∷◌, length, slice_index, Some}
use Rattle.std.proofs.Common.{arith}
use Rattle.rom_model.specs.History.{LAST_COUNT}
use Rattle.rom_model.specs.Blocks.{region_len}
use Rattle.rom_blob_region.specs.State.{BlobState, blob_step}
use Rattle.rom_blob_region.specs.Region.{BlobContents}
use Rattle.rom_blob_region.specs.declared.call.BlobCall.{BlobCall}
use Rattle.rom_blob_region.specs.declared.call.BlobReply.{BlobReply}
use Rattle.rom_blob_region.specs.declared.call.BlobReply.TheVariants.{New, Was, Full, NoPrior}
use Rattle.rom_blob_region.proofs.Single as single
use Rattle.rom_blob.specs.Codes.{blob_call_from_words, blob_reply_words, blob_reply_from_words}
use Rattle.rom_blob.specs.Tags as tags

-- what a call is told is read back from its words
pub blob_reply_back : (order : ℕ) (s : BlobState) (count : ℕ) (words : List ℕ) (call : BlobCall) → blob_call_from_words words ≡ Some call → let told : BlobReply = (blob_step order s count call).1 in blob_reply_from_words (blob_reply_words told) ≡ Some told
blob_reply_back order s count words call is = tags.blob_reply_read_back (blob_step order s count call).1

-- the words of the reply to a call are at most twice as many as those of the call
pub blob_reply_few : (order : ℕ) (s : BlobState) (count : ℕ) (words : List ℕ) (call : BlobCall) → blob_call_from_words words ≡ Some call → length (blob_reply_words (blob_step order s count call).1) ≤ 2 * length words
blob_reply_few order s count [] call is = cc
blob_reply_few order s count (tag ∷ words) call is = omega (arith, few (blob_step order s count call).1)
  where
    few : (told : BlobReply) → length (blob_reply_words told) ≤ 2
    few New = omega arith
    few (Was len) = omega arith
    few Full = omega arith
    few NoPrior = omega arith

-- a region stands for one state and one count
pub one_blob_contents : (n : ℕ) (words : List ℕ) (s t : BlobState) (j k : ℕ) → BlobContents n words s j → BlobContents n words t k → (s ≡ t) × (j ≡ k)
one_blob_contents n words s t j k one two = single.one_contents one two

-- a region is as long as its order says; its word 0 is the kind, 2; its word 2 is the count, within the limit
pub blob_contents_within : (n : ℕ) (words : List ℕ) (s : BlobState) (k : ℕ) → BlobContents n words s k → (length words ≡ region_len n) × (slice_index words 2 ≡ k) × (k ≤ LAST_COUNT) × (slice_index words 0 ≡ 2)
blob_contents_within n words s k is = single.contents_within is
