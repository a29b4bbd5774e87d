-- What words ask for.
use Rattle.std.specs.Prelude.{◌≡◌, ◌≢◌, ℕ, ◌/◌, ◌%◌, ◌^◌, ◌<◌, ◌+◌, ◌&&◌, nat_lt, if◌then◌else◌, Bool, true, false, List, [], ◌∷◌, drop, codes, decimal}
use Rattle.std.specs.List.{flat_map}
use Rattle.std.proofs.Common.{refl, sym, ap, ◌∙◌, arith, rules}
use Rattle.std.proofs.lemmas.Bool.{lt-ltb}
use Rattle.rom_text.specs.Phrases.{line_words}
use Rattle.rom_text.proofs.Reading.{is_word}
use Rattle.rom_blob_region.specs.Texts.{AreBytes, bytes_text, digit_of, digits_of}
use Rattle.rom_blob_region.specs.declared.call.BlobCall.TheVariants as call
use Rattle.rom_blob_region.specs.declared.call.BlobQuery.TheVariants as query
use Rattle.rom_blob.specs.Lines.{IsNoCall, IsNoQuery, blob_call_line}
use Rattle.rom_blob.proofs.Words.{one_word, some_word, word_alone}

-- a digit is no space
digit_is_no_space : (d : ℕ) → nat_lt 32 (digit_of d) ≡ true
digit_is_no_space d = either (nat_lt d 10)
  where
    either : (t : Bool) → nat_lt 32 (if t then 48 + d else 87 + d) ≡ true
    either true = lt-ltb 32 (48 + d) (omega arith)
    either false = lt-ltb 32 (87 + d) (omega arith)

digits_are_a_word : (bytes : List ℕ) → is_word (flat_map digits_of bytes) ≡ true
digits_are_a_word [] = refl
digits_are_a_word (b ∷ bytes) =
    ap (λ t. t && (nat_lt 32 (digit_of (b % 16)) && is_word (flat_map digits_of bytes))) (digit_is_no_space (b / 16))
    ∙ ap (λ t. t && is_word (flat_map digits_of bytes)) (digit_is_no_space (b % 16)) ∙ digits_are_a_word bytes

-- bytes are written as a word
pub bytes_are_a_word : (bytes : List ℕ) → is_word (bytes_text bytes) ≡ true
bytes_are_a_word [] = refl
bytes_are_a_word (b ∷ bytes) = digits_are_a_word (b ∷ bytes)

-- a key and bytes behind it
module _ (text key bytes : List ℕ) (words : line_words text ≡ key ∷ line_words bytes) where
  pub set_words : (n : ℕ) (list : List ℕ) → key ≡ decimal n → bytes ≡ bytes_text list → codes "set" ∷ line_words text ≡ blob_call_line (call.Set n list)
  set_words n list number text_is = ap (λ ws. codes "set" ∷ ws) (words ∙ (λ i. number i ∷ line_words (text_is i)) ∙ ap (λ ws. decimal n ∷ ws) (one_word (bytes_text list) (bytes_are_a_word list)))

  pub no_set_key : ((n : ℕ) → n < 2 ^ 64 → key ≢ decimal n) → IsNoCall (codes "set" ∷ line_words text)
  no_set_key none (call.Set n list) fits is = none n fits.0 (first_same (sym words ∙ ap (drop 1) is))
    where
      first_same : key ∷ line_words bytes ≡ decimal n ∷ bytes_text list ∷ [] → key ≡ decimal n
      first_same same = search rules
  no_set_key none (call.Cut n) fits is = search rules

  pub no_set_bytes : ((list : List ℕ) → AreBytes list → bytes ≢ bytes_text list) → IsNoCall (codes "set" ∷ line_words text)
  no_set_bytes none (call.Set n list) fits is = none list fits.1 (word_alone bytes (bytes_text list) (ap (drop 1) (sym words ∙ ap (drop 1) is)))
  no_set_bytes none (call.Cut n) fits is = search rules

-- a word of another length or with other bytes is no name of a query
pub no_fetch : (name text : List ℕ) → name ≢ codes "fetch" → IsNoQuery (name ∷ line_words text)
no_fetch name text other (query.Fetch n) fits is = other (first_same is)
  where
    first_same : name ∷ line_words text ≡ codes "fetch" ∷ decimal n ∷ [] → name ≡ codes "fetch"
    first_same same = search rules
no_fetch name text other query.Size fits is = some_word text (ap (drop 1) is)
