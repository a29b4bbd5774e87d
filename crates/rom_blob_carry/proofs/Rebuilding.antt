-- The lines of the elements of a region carry over what it holds.
use Rattle.std.specs.Prelude.{codes, decimal, nat_lt, option_map, ◌==◌, if◌then◌else◌}
use Rattle.std.specs.List.{AllByRecursion, onto_first}
use Rattle.std.specs.FinMap as finite
use Rattle.std.proofs.Common.{◌≡◌, inl, inr, ℕ, ◌+◌, ◌*◌, ◌≤◌, true, false, cond, List, [], ◌∷◌, ◌++◌, map, length, refl, sym, ◌∙◌, ap, arith, ne_eqb, length-append}
use Rattle.std.proofs.lemmas.Bool.{cases_eq, ltb-true}
use Rattle.std.proofs.lemmas.Bool.Decides.{nat_tests}
use Rattle.std.proofs.lemmas.List.{length-map}
use Rattle.rom_model.specs.Blocks.{IsOrder}
use Rattle.rom_text.specs.Lines.{AreRead}
use Rattle.rom_text.specs.Phrases.{line_words}
use Rattle.rom_text.proofs.Numbers.{number_short}
use Rattle.rom_text.proofs.Reading.{both, decimal_is_a_word, is_word}
use Rattle.rom_carry.specs.Carried.{AreWritten}
use Rattle.rom_carry.specs.Rebuilds.{after_steps, told_by_steps}
use Rattle.rom_carry.specs.Scripts.{IsPlain}
use Rattle.rom_carry.proofs.Carrying.{above_append, above_digits, above_word, carried, is_above, plain_line}
use Rattle.rom_blob_region.specs.State.{Blob, BlobState, no_blobs, set_blob}
use Rattle.rom_blob_region.specs.Region.{IsBlobs}
use Rattle.rom_blob_region.specs.Texts.{AreBytes, bytes_text}
use Rattle.rom_blob_region.specs.declared.call.BlobReply.{BlobReply}
use Rattle.rom_blob_region.specs.declared.call.BlobReply.TheVariants.{New, Full}
use Rattle.rom_blob.specs.Blobs.{blobs}
use Rattle.rom_blob.specs.Lines.{ReadsBlobs}
use Rattle.rom_blob.proofs.Asking.{bytes_are_a_word}
use Rattle.rom_blob.proofs.Words.{one_word}
use Rattle.rom_blob_carry.specs.Carried.{CarriesBlobs, IsFull, SameBytes}
use Rattle.rom_blob_carry.specs.Elements.{Entry, EntryFits, elements_of}
use Rattle.rom_blob_carry.specs.Grown.{after_sets}
use Rattle.rom_blob_carry.specs.Lines.{blob_bounds, set_line}
use Rattle.rom_blob_carry.specs.Packed.{AreAllSet, sets_of}
use Rattle.rom_blob_carry.proofs.Ordered.{elements_found}
use Rattle.rom_blob_carry.proofs.Packed.{elements_few, elements_packed, entries_once}
use Rattle.rom_blob_carry.proofs.Packing.{packs}
use Rattle.rom_blob_carry.proofs.Texts.{line_long, text_long}

-- a word before a space
word_before : (w rest : List ℕ) → is_word w ≡ true → line_words (w ++ 32 ∷ rest) ≡ w ∷ line_words rest
word_before [] rest word = refl
word_before (b ∷ bs) rest word =
    let parts = both (nat_lt 32 b) (is_word bs) word in
    ap (λ t. cond t ([] ∷ line_words (bs ++ 32 ∷ rest)) (onto_first b (line_words (bs ++ 32 ∷ rest)))) (ne_eqb b 32 (λ space. omega (arith, space, ltb-true 32 b parts.0))) ∙ ap (onto_first b) (word_before bs rest parts.1)

set_words : (e : Entry) → line_words (set_line e) ≡ codes "set" ∷ decimal e.0 ∷ bytes_text e.1 ∷ []
set_words e = word_before (codes "set") (decimal e.0 ++ 32 ∷ bytes_text e.1) refl ∙ ap (λ ws. codes "set" ∷ ws) (word_before (decimal e.0) (bytes_text e.1) (decimal_is_a_word e.0) ∙ ap (λ ws. decimal e.0 ∷ ws) (one_word (bytes_text e.1) (bytes_are_a_word e.1)))

lines_read : (es : List Entry) → AllByRecursion EntryFits es → AreRead ReadsBlobs (map set_line es) (sets_of es)
lines_read [] fit = tt
lines_read (e ∷ es) fit = ((fit.0, set_words e), lines_read es fit.1)

-- the lines stand in scripts
line_above : (e : Entry) → is_above (set_line e) ≡ true
line_above e = above_append (codes "set ") (decimal e.0 ++ 32 ∷ bytes_text e.1) refl (above_append (decimal e.0) (32 ∷ bytes_text e.1) (above_digits e.0) (above_word (bytes_text e.1) (bytes_are_a_word e.1)))

bytes_short : (bytes : List ℕ) → AreBytes bytes → length (bytes_text bytes) ≤ 512
bytes_short bytes are = elim (cases_eq (length bytes) 0) [
  | inl none ↦
      let test : (length bytes == 0) ≡ true = grind (arith, nat_tests) in
      omega (arith, text_long bytes ∙ ap (λ t. if t then 1 else 2 * length bytes) test)
  | inr some ↦
      let test : (length bytes == 0) ≡ false = grind (arith, nat_tests) in
      omega (arith, text_long bytes ∙ ap (λ t. if t then 1 else 2 * length bytes) test, are.0)
]

line_short : (e : Entry) → EntryFits e → length (set_line e) ≤ 537
line_short e fit = omega (arith, line_long e, length-append (set_line e) (10 ∷ []), number_short e.0 fit.0, bytes_short e.1 fit.1)

lines_short : (es : List Entry) → AllByRecursion EntryFits es → AllByRecursion (λ line. length line ≤ 537) (map set_line es)
lines_short [] fit = tt
lines_short (e ∷ es) fit = (line_short e fit.0, lines_short es fit.1)

lines_plain : (es : List Entry) → AllByRecursion IsPlain (map set_line es)
lines_plain [] = tt
lines_plain (e ∷ es) = (plain_line (set_line e) (line_above e), lines_plain es)

pub written : (es : List Entry) → length es ≤ 61440 → AllByRecursion EntryFits es → AreWritten blob_bounds (map set_line es)
written es few fit = record {
  few = omega (arith, few, length-map es set_line);
  short = lines_short es fit;
  plain = lines_plain es;
}

-- who is told that a key is new is not told that the heap is full
not_full : (told : List BlobReply) → AllByRecursion (λ reply. reply ≡ New) told → AllByRecursion (λ reply. IsFull reply → ⊥) told
not_full [] new = tt
not_full (reply ∷ told) new = ((λ full. (let never : New ≡ Full = sym new.0 ∙ full in cc)), not_full told new.1)

-- the updates of a script, and keys that get their bytes
sets_steps : (n : ℕ) (s : BlobState) (k : ℕ) (es : List Entry) → after_steps blobs n s k (sets_of es) ≡ after_sets n s es
sets_steps n s k [] = refl
sets_steps n s k (e ∷ es) = sets_steps n (set_blob n s e.0 e.1 (finite.get s e.0)).0 (k + 1) es

module _ {n : ℕ} {w : List ℕ} {f : ℕ → List ℕ} {s : BlobState} {k : ℕ} (is : IsBlobs n w f s k) where
  -- in a heap of this order, and of each greater one, the elements find room
  all_set : (greater : ℕ) → n ≤ greater → IsOrder greater → AreAllSet blobs greater (elements_of s)
  all_set greater le order = packs blobs refl greater (elements_of s) (elements_packed is greater le order)

  same_bytes : (greater : ℕ) → n ≤ greater → IsOrder greater → SameBytes s (after_steps blobs greater no_blobs 0 (sets_of (elements_of s)))
  same_bytes greater le order key = (all_set greater le order).bytes_are key ∙ elements_found s (entries_once is) key

  pub few_lines : length (elements_of s) ≤ 61440
  few_lines = elements_few is

  pub carries : AllByRecursion EntryFits (elements_of s) → CarriesBlobs n s (map set_line (elements_of s))
  carries fit = (
    refl,
    carried blobs ReadsBlobs SameBytes IsFull blob_bounds n s (map set_line (elements_of s)) (written (elements_of s) (elements_few is) fit) (λ greater le order.
        let all = all_set greater le order in
        record {
          steps = sets_of (elements_of s);
          read = lines_read (elements_of s) fit;
          rebuild = record {
            same = same_bytes greater le order;
            none_refused = not_full (told_by_steps blobs greater no_blobs 0 (sets_of (elements_of s))) all.told_new;
            answered = all.answered;
          };
        }),
  )

  -- what a region stands for in which they were set
  pub stays : (greater : ℕ) → n ≤ greater → IsOrder greater → SameBytes s (after_sets greater no_blobs (elements_of s))
  stays greater le order key = ap (λ (m : BlobState). option_map (λ (blob : Blob). blob.bytes) (finite.get m key)) (sym (sets_steps greater no_blobs 0 (elements_of s))) ∙ same_bytes greater le order key
