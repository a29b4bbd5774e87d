-- The words of a whole heap, and what a stop leaves while they are put.
use Rattle.std.proofs.Common.{◌≡◌, ◌≢◌, zero, suc, ℕ, ◌+◌, ◌-◌, ◌<◌, List, [], ◌∷◌, ◌++◌, length, get_or, set, take, drop, refl, sym, ◌∙◌, ap, subst, inl, inr, arith, length-append, length-drop, get_or-set_other, get_or-set_same}
use Rattle.std.proofs.lemmas.List.{get_or-append-add, get_or_append_left, get_or-drop, get_or-take, length-take}
use Rattle.rom_model.specs.Blocks.{IsOrder, region_len}
use Rattle.rom_device.specs.Device.{WritesMany, WritesWord}
use Rattle.rom_header.specs.Layout.{MAGIC, back_at, words_needed}
use Rattle.rom_header.proofs.Parts.{part_is}
use Rattle.rom_steady.specs.declared.names.NameWords.{NameWords}
use Rattle.rom_copy.specs.Putting.{NoneOrWhole}
use Rattle.rom_copy.specs.Whole.{HoldsWhole, heap_words}

pub heap_words_long : (order : ℕ) (names : NameWords) (image : List ℕ) → length image ≡ region_len order → length (heap_words order names image) ≡ words_needed order
heap_words_long order names image size = omega (arith, size, length-append image image)

-- behind eight words
behind_eight : (a b c d e f g h : ℕ) (rest : List ℕ) (k : ℕ) → get_or (a ∷ b ∷ c ∷ d ∷ e ∷ f ∷ g ∷ h ∷ rest) (8 + k) 0 ≡ get_or rest k 0
behind_eight a b c d e f g h rest k = get_or-append-add (a ∷ b ∷ c ∷ d ∷ e ∷ f ∷ g ∷ h ∷ []) rest k 0

pub holds_whole : (order : ℕ) (names : NameWords) (image : List ℕ) → IsOrder order → length image ≡ region_len order → HoldsWhole order names image (heap_words order names image)
holds_whole order names image fits size =
    let words = heap_words order names image in
    let long : length words ≡ words_needed order = heap_words_long order names image size in
    let at : (k : ℕ) → get_or words (8 + k) 0 ≡ get_or (image ++ image) k 0 = λ k. behind_eight MAGIC 1 order 0 names.high names.low names.epoch names.since (image ++ image) k in
    record {
      current = record {
        heap = record {
          header = record { magic = refl; version = refl; order_is = refl; fits = fits };
          long = omega (arith, long);
          state = omega arith;
        };
        counts = inl (
          refl,
          part_is 8 (region_len order) image words size (omega (arith, long)) (λ k h. at k ∙ get_or_append_left image image 0 k (omega (arith, size))),
          part_is (back_at order) (region_len order) image words size (omega (arith, long)) (λ k h. subst (λ n. get_or words n 0 ≡ get_or image k 0) (omega (arith, size)) (at (length image + k) ∙ get_or-append-add image image k 0)),
        );
      };
      names_are = record { high = refl; low = refl; epoch = refl; since = refl };
    }

-- while the rest is written there is no magic
pub still_none : (whole rest x y : List ℕ) → get_or x 0 0 ≢ MAGIC → WritesMany 1 rest x y → NoneOrWhole whole y
still_none whole rest x y none by = inl (λ e. none (sym (by.only.before 0 (omega arith)) ∙ e))

-- all words but the first
abbrev pub rest_of : List ℕ → List ℕ
rest_of whole = take (length whole - 1) (drop 1 whole)

in_rest : (whole : List ℕ) (k : ℕ) → suc k < length whole → get_or (rest_of whole) k 0 ≡ get_or whole (suc k) 0
in_rest whole k h = get_or-take (length whole - 1) (drop 1 whole) k 0 (omega arith) ∙ get_or-drop 1 whole k 0 ∙ ap (λ n. get_or whole n 0) (omega arith)

rest_long : (whole : List ℕ) → 0 < length whole → length (rest_of whole) ≡ length whole - 1
rest_long whole some = omega (arith, length-take (length whole - 1) (drop 1 whole), length-drop 1 whole)

each : (whole y : List ℕ) → 0 < length y → ((k : ℕ) → k < length (rest_of whole) → get_or y (1 + k) 0 ≡ get_or (rest_of whole) k 0) → (k : ℕ) → k < length whole → get_or (set y 0 (get_or whole 0 0)) k 0 ≡ get_or whole k 0
each whole y some rest zero h = get_or-set_same y 0 (get_or whole 0 0) 0 some
each whole y some rest (suc k) h =
    let other : suc k ≢ 0 = omega arith in
    let is : get_or (set y 0 (get_or whole 0 0)) (suc k) 0 ≡ get_or y (suc k) 0 = rw get_or-set_other refl in
    is ∙ ap (λ n. get_or y n 0) (omega arith) ∙ rest k (omega (arith, rest_long whole (omega arith))) ∙ in_rest whole k h

-- and then there is the whole heap
pub sealed : (whole y i : List ℕ) → get_or y 0 0 ≢ MAGIC → 0 < length y → ((k : ℕ) → k < length (rest_of whole) → get_or y (1 + k) 0 ≡ get_or (rest_of whole) k 0) → WritesWord 0 (get_or whole 0 0) y i → NoneOrWhole whole i
sealed whole y i none some rest (inl same) = inl (subst (λ (l : List ℕ). get_or l 0 0 ≢ MAGIC) (sym same) none)
sealed whole y i none some rest (inr put) = inr (subst (λ (l : List ℕ). (k : ℕ) → k < length whole → get_or l k 0 ≡ get_or whole k 0) (sym put) (each whole y some rest))
