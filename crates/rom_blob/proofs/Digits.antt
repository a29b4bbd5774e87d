-- Bytes that are read from their digits.
use Rattle.std.specs.Prelude.{◌≡◌, ◌≢◌, ℕ, ◌+◌, ◌<◌, ◌≤◌, nat_le, true, if◌then◌else◌, List, [], ◌∷◌, ◌++◌, length, take, drop, slice_index, slice_set, Option, Some, None, IfSome}
use Rattle.std.specs.List.{flat_map}
use Rattle.std.proofs.Common.{sym, ap, subst, ◌∙◌, arith, rules, add-one, append_assoc, append-nil, inl, inr}
use Rattle.std.proofs.lemmas.Bool.{cases_lt}
use Rattle.std.proofs.lemmas.Bool.Decides.{nat_tests}
use Rattle.std.proofs.lemmas.List.{drop_all, get_or-drop, get_or-take, get_or_past, length-take, nil_from_length}
use Rattle.std.proofs.lemmas.List.Concat.{flat_map-append}
use Rattle.std.proofs.Math.Seq.{take-suc-set}
use Rattle.rom_blob_region.specs.Texts.{AreBytes, digits_of}

-- the digits behind those of some bytes are those of the bytes behind
pub digits_behind : (done bytes rest : List ℕ) → flat_map digits_of bytes ≡ flat_map digits_of done ++ rest → flat_map digits_of (drop (length done) bytes) ≡ rest
digits_behind [] bytes rest is = is
digits_behind (d ∷ done) [] rest is = absurd (search rules)
digits_behind (d ∷ done) (b ∷ bytes) rest is = digits_behind done bytes rest (ap (drop 2) is)

-- digits of one byte more are read
pub read_more : (digits bytes : List ℕ) (len b high low : ℕ) (more : List ℕ) → len < length bytes → digits ≡ flat_map digits_of (take len bytes) ++ high ∷ low ∷ more → digits_of b ≡ high ∷ low ∷ [] →
    digits ≡ flat_map digits_of (take (len + 1) (slice_set bytes len b)) ++ more
read_more digits bytes len b high low more lt read pair =
    let done = flat_map digits_of (take len bytes) in
    let text : digits ≡ (done ++ digits_of b) ++ more = read ∙ (λ i. done ++ (sym pair i ++ more)) ∙ sym (append_assoc done (digits_of b) more) in
    let taken : take (len + 1) (slice_set bytes len b) ≡ take len bytes ++ b ∷ [] = ap (λ k. take k (slice_set bytes len b)) (add-one len) ∙ take-suc-set bytes len b lt in
    text ∙ ap (λ ds. ds ++ more) (sym (ap (flat_map digits_of) taken ∙ flat_map-append digits_of (take len bytes) (b ∷ [])))

-- text that goes on after the digits of some bytes, and the bytes it would be the digits of
module _ (digits done rest bytes : List ℕ) (small : (k : ℕ) → slice_index bytes k < 256) (read : digits ≡ flat_map digits_of done ++ rest) (same : digits ≡ flat_map digits_of bytes) where
  rest_is : flat_map digits_of (drop (length done) bytes) ≡ rest
  rest_is = digits_behind done bytes rest (sym same ∙ read)

  -- they are not too many where no digits are left
  pub not_more : length bytes ≤ length done → 0 < length rest → ⊥
  not_more few some = let none = ap (flat_map digits_of) (sym (drop_all (length done) bytes few)) ∙ rest_is in omega (arith, some, ap length none)

  -- one digit is never left
  pub not_one : length rest ≡ 1 → ⊥
  not_one one = go (drop (length done) bytes) (ap length rest_is ∙ one)
    where
      go : (left : List ℕ) → length (flat_map digits_of left) ≡ 1 → ⊥
      go [] is = omega (arith, is)
      go (b ∷ left) is = omega (arith, is)

  -- and two digits that are left are those of a byte
  pub not_none : 2 ≤ length rest → ((b : ℕ) → b < 256 → digits_of b ≢ slice_index rest 0 ∷ slice_index rest 1 ∷ []) → ⊥
  not_none two none = go (drop (length done) bytes) (λ k. omega (arith, small (length done + k), get_or-drop (length done) bytes k 0)) rest_is
    where
      go : (left : List ℕ) → ((k : ℕ) → slice_index left k < 256) → flat_map digits_of left ≡ rest → ⊥
      go [] low_enough is = omega (arith, two, ap length is)
      go (b ∷ left) low_enough is = none b (low_enough 0) (λ i. slice_index (is i) 0 ∷ slice_index (is i) 1 ∷ [])

-- the first bytes of some that are small are small
small_front : (bytes : List ℕ) (len : ℕ) → ((k : ℕ) → slice_index bytes k < 256) → (k : ℕ) → slice_index (take len bytes) k < 256
small_front bytes len small k = elim (cases_lt k len) [
  | inl lt ↦ omega (arith, small k, get_or-take len bytes k 0 lt)
  | inr ge ↦ omega (arith, get_or_past (take len bytes) k 0 (omega (arith, ge, length-take len bytes)))
]

-- bytes that were read to the last digit
pub all_read : (digits bytes rest : List ℕ) (len : ℕ) (made : Option (List ℕ)) → len ≤ 256 → length bytes ≡ 256 → ((k : ℕ) → slice_index bytes k < 256) → digits ≡ flat_map digits_of (take len bytes) ++ rest → length rest ≡ 0 →
    made ≡ (if nat_le (length (take len bytes)) 256 then Some (take len bytes) else None) → IfSome made (λ found. AreBytes found × (digits ≡ flat_map digits_of found))
all_read digits bytes rest len made few long small read none is =
    let done = take len bytes in
    let fits : length done ≤ 256 = omega (arith, few, length-take len bytes) in
    let test : nat_le (length done) 256 ≡ true = grind (arith, nat_tests, fits) in
    let whole : digits ≡ flat_map digits_of done = read ∙ ap (λ r. flat_map digits_of done ++ r) (nil_from_length rest none) ∙ append-nil (flat_map digits_of done) in
    subst (λ o. IfSome o (λ found. AreBytes found × (digits ≡ flat_map digits_of found))) (sym (is ∙ ap (λ t. if t then Some done else None) test)) ((fits, small_front bytes len small), whole)
