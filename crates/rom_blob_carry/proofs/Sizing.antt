-- What is kept of a key, by the size of the block of its bytes.
use Rattle.std.proofs.Common.{◌≡◌, ◌≢◌, ℕ, ◌+◌, ◌<◌, true, false, List, [], ◌∷◌, ◌++◌, length, take, get_or, refl, sym, ◌∙◌, ap, append-nil, append_assoc, arith}
use Rattle.std.specs.Prelude.{Option, Some, None, ◌==◌, if◌then◌else◌}
use Rattle.std.specs.List.{flat_map}
use Rattle.std.specs.FinMap as finite
use Rattle.std.proofs.lemmas.Bool.Decides.{nat_tests}
use Rattle.std.proofs.lemmas.Grind.{flat_map-append}
use Rattle.std.proofs.lemmas.List.{take_more}
use Rattle.rom_blob_region.specs.State.{Blob, BlobState, body_units, bytes_told}
use Rattle.rom_blob_region.specs.declared.call.BlobAnswer.TheVariants as answer
use Rattle.rom_blob_carry.specs.Elements.{Entry, one_sized, sized_in}

same_bytes : (xs ys : List ℕ) → answer.Bytes xs ≡ answer.Bytes ys → xs ≡ ys
same_bytes xs ys is = cc

-- a key whose bytes have a block of that size
pub one_kept : (units key : ℕ) (found : Option Blob) (bytes : List ℕ) → answer.Bytes bytes ≡ bytes_told found → body_units (length bytes) ≡ units → (key, bytes) ∷ [] ≡ one_sized units key found
one_kept units key None bytes is same = absurd (let never : answer.Bytes bytes ≡ answer.Missing = is in cc)
one_kept units key (Some blob) bytes is same =
    let e = same_bytes bytes blob.bytes is in
    let size : body_units (length blob.bytes) ≡ units = ap (λ (b : List ℕ). body_units (length b)) (sym e) ∙ same in
    let test : (body_units (length blob.bytes) == units) ≡ true = grind (arith, nat_tests) in
    let nothing : List Entry = [] in
    let there : (key, blob.bytes) ∷ [] ≡ one_sized units key (Some blob) = ap (λ t. if t then (key, blob.bytes) ∷ [] else nothing) (sym test) in
    ap (λ b. (key, b) ∷ []) e ∙ there

-- one whose bytes have a block of another size
pub none_kept : (units key : ℕ) (found : Option Blob) (bytes : List ℕ) → answer.Bytes bytes ≡ bytes_told found → body_units (length bytes) ≢ units → [] ≡ one_sized units key found
none_kept units key None bytes is other = refl
none_kept units key (Some blob) bytes is other =
    let e = same_bytes bytes blob.bytes is in
    let size : body_units (length blob.bytes) ≢ units = λ same. other (ap (λ (b : List ℕ). body_units (length b)) e ∙ same) in
    let test : (body_units (length blob.bytes) == units) ≡ false = grind (arith, nat_tests) in
    let nothing : List Entry = [] in
    ap (λ t. if t then (key, blob.bytes) ∷ [] else nothing) (sym test)

-- one that is not there
pub gone_kept : (units key : ℕ) (found : Option Blob) → answer.Missing ≡ bytes_told found → [] ≡ one_sized units key found
gone_kept units key None is = refl
gone_kept units key (Some blob) is = absurd (let never : answer.Missing ≡ answer.Bytes blob.bytes = is in cc)

-- no key is told as a number of keys
pub never_kept : (m units key : ℕ) (found : Option Blob) → answer.Keys m ≡ bytes_told found → [] ≡ one_sized units key found
never_kept m units key None is = refl
never_kept m units key (Some blob) is = absurd (let never : answer.Keys m ≡ answer.Bytes blob.bytes = is in cc)

-- one key more
pub sized_more : (units : ℕ) (s : BlobState) (keys : List ℕ) (i : ℕ) → i < length keys → sized_in units s (take i keys) ++ one_sized units (get_or keys i 0) (finite.get s (get_or keys i 0)) ≡ sized_in units s (take (i + 1) keys)
sized_more units s keys i lt =
    let f : ℕ → List Entry = λ key. one_sized units key (finite.get s key) in
    ap (λ es. sized_in units s (take i keys) ++ es) (sym (append-nil (f (get_or keys i 0)))) ∙ sym (flat_map-append f (take i keys) (get_or keys i 0 ∷ [])) ∙ ap (flat_map f) (sym (take_more keys i 0 lt))

-- five lists put behind one, one after another
pub five_behind : (old a b c d e one two three four five : List Entry) → one ≡ old ++ a → two ≡ one ++ b → three ≡ two ++ c → four ≡ three ++ d → five ≡ four ++ e → five ≡ old ++ (a ++ (b ++ (c ++ (d ++ (e ++ [])))))
five_behind old a b c d e one two three four five first second third fourth fifth =
    let all : five ≡ (((old ++ a) ++ b) ++ c) ++ (d ++ e) = fifth ∙ ap (λ xs. xs ++ e) (fourth ∙ ap (λ xs. xs ++ d) (third ∙ ap (λ xs. xs ++ c) (second ∙ ap (λ xs. xs ++ b) first))) ∙ append_assoc (((old ++ a) ++ b) ++ c) d e in
    all ∙ append_assoc ((old ++ a) ++ b) c (d ++ e) ∙ append_assoc (old ++ a) b (c ++ (d ++ e)) ∙ append_assoc old a (b ++ (c ++ (d ++ e))) ∙ ap (λ xs. old ++ (a ++ (b ++ (c ++ (d ++ xs))))) (sym (append-nil e))
