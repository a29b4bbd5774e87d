-- The words of calls and replies stand for them alone.
use Rattle.std.proofs.Common.{◌≡◌, ℕ, ◌<◌, ◌≤◌, List, [], ◌∷◌, length, Bool, true, false, refl, sym, ap, ◌∙◌, Option, Some, None}
use Rattle.std.specs.Prelude.{◌==◌, slice_index, option_map, if◌then◌else◌}
use Rattle.std.proofs.lemmas.Bool.{eqb-true}
use Rattle.rom_blob_region.specs.Bytes.{bytes_in, words_for, words_from_bytes}
use Rattle.rom_blob_region.proofs.Reading.{bytes_again, bytes_only}
use Rattle.rom_blob.specs.Codes.{blob_call_words, set_blob_call, cut_call, blob_call_from_words, blob_reply_words, blob_reply_from_words}
use Rattle.rom_blob_region.specs.declared.call.BlobCall.{BlobCall}
use Rattle.rom_blob_region.specs.declared.call.BlobCall.TheVariants.{Set, Cut}
use Rattle.rom_blob_region.specs.declared.call.BlobReply.{BlobReply}
use Rattle.rom_blob_region.specs.declared.call.BlobReply.TheVariants.{New, Was, Full, NoPrior}

-- a call is read back from its words, where its bytes are bytes
pub set_back : (key : ℕ) (bytes : List ℕ) → length bytes ≤ 256 → ((k : ℕ) → slice_index bytes k < 256) → blob_call_from_words (blob_call_words (Set key bytes)) ≡ Some (Set key bytes)
set_back key bytes few small = ap (option_map (Set key)) (bytes_again bytes few small)

-- a call that takes a key out is read back from its words
pub cut_back : (key : ℕ) → blob_call_from_words (blob_call_words (Cut key)) ≡ Some (Cut key)
cut_back key = refl

-- words that are read as a call are the words of that call
pub blob_call_only : (words : List ℕ) (call : BlobCall) → blob_call_from_words words ≡ Some call → blob_call_words call ≡ words
blob_call_only [] call is = absurd (let never : None ≡ Some call = is in cc)
blob_call_only (tag ∷ []) call is = absurd (let never : None ≡ Some call = is in cc)
blob_call_only (tag ∷ key ∷ rest) call is = by_tag (tag == 1) (tag == 2) refl refl is
  where
    made : (x : BlobCall) → Some x ≡ Some call → blob_call_words x ≡ tag ∷ key ∷ rest → blob_call_words call ≡ tag ∷ key ∷ rest
    made x same its = let e : x ≡ call = cc in sym (ap blob_call_words e) ∙ its

    set : (words : List ℕ) → rest ≡ words → tag ≡ 1 → set_blob_call key words ≡ Some call → blob_call_words call ≡ tag ∷ key ∷ rest
    set [] e one told = absurd (let never : None ≡ Some call = told in cc)
    set (len ∷ words) e one told = go (bytes_in words len) refl told
      where
        go : (found : Option (List ℕ)) → bytes_in words len ≡ found → option_map (Set key) found ≡ Some call → blob_call_words call ≡ tag ∷ key ∷ rest
        go None gone done = absurd (let never : None ≡ Some call = done in cc)
        go (Some bytes) found done =
            let only = bytes_only words len bytes found in
            let its : words_from_bytes bytes (words_for (length bytes)) ≡ words = ap (λ m. words_from_bytes bytes (words_for m)) only.0 ∙ only.1 in
            let long = only.0 in
            made (Set key bytes) done ((λ i. sym one i ∷ key ∷ long i ∷ its i) ∙ (λ i. tag ∷ key ∷ sym e i))

    cut : (words : List ℕ) → rest ≡ words → tag ≡ 2 → cut_call key words ≡ Some call → blob_call_words call ≡ tag ∷ key ∷ rest
    cut [] e two told = made (Cut key) told (λ i. sym two i ∷ key ∷ sym e i)
    cut (word ∷ words) e two told = absurd (let never : None ≡ Some call = told in cc)

    by_tag : (a b : Bool) → (tag == 1) ≡ a → (tag == 2) ≡ b → (if a then set_blob_call key rest else if b then cut_call key rest else None) ≡ Some call → blob_call_words call ≡ tag ∷ key ∷ rest
    by_tag true b x y told = set rest refl (eqb-true tag 1 x) told
    by_tag false true x y told = cut rest refl (eqb-true tag 2 y) told
    by_tag false false x y told = absurd (let never : None ≡ Some call = told in cc)

-- a reply is read back from its words
pub blob_reply_read_back : (reply : BlobReply) → blob_reply_from_words (blob_reply_words reply) ≡ Some reply
blob_reply_read_back New = refl
blob_reply_read_back (Was len) = refl
blob_reply_read_back Full = refl
blob_reply_read_back NoPrior = refl

-- words that are read as a reply are the words of that reply
pub blob_reply_only : (words : List ℕ) (reply : BlobReply) → blob_reply_from_words words ≡ Some reply → blob_reply_words reply ≡ words
blob_reply_only [] reply is = absurd (let never : None ≡ Some reply = is in cc)
blob_reply_only (tag ∷ []) reply is = by_tag (tag == 1) (tag == 3) (tag == 4) refl refl refl is
  where
    made : (x : BlobReply) (own : ℕ) → blob_reply_words x ≡ own ∷ [] → tag ≡ own → Some x ≡ Some reply → blob_reply_words reply ≡ tag ∷ []
    made x own its same told = let e : x ≡ reply = cc in sym (ap blob_reply_words e) ∙ its ∙ (λ i. sym same i ∷ [])

    by_tag : (a b c : Bool) → (tag == 1) ≡ a → (tag == 3) ≡ b → (tag == 4) ≡ c → (if a then Some New else if b then Some Full else if c then Some NoPrior else None) ≡ Some reply → blob_reply_words reply ≡ tag ∷ []
    by_tag true b c x y z told = made New 1 refl (eqb-true tag 1 x) told
    by_tag false true c x y z told = made Full 3 refl (eqb-true tag 3 y) told
    by_tag false false true x y z told = made NoPrior 4 refl (eqb-true tag 4 z) told
    by_tag false false false x y z told = absurd (let never : None ≡ Some reply = told in cc)
blob_reply_only (tag ∷ len ∷ []) reply is = go (tag == 2) refl is
  where
    go : (b : Bool) → (tag == 2) ≡ b → (if b then Some (Was len) else None) ≡ Some reply → blob_reply_words reply ≡ tag ∷ len ∷ []
    go true x told = let e : Was len ≡ reply = cc in sym (ap blob_reply_words e) ∙ (let same = eqb-true tag 2 x in λ i. sym same i ∷ len ∷ [])
    go false x told = absurd (let never : None ≡ Some reply = told in cc)
blob_reply_only (tag ∷ len ∷ more ∷ rest) reply is = absurd (let never : None ≡ Some reply = is in cc)
