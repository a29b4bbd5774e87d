-- No head is a frame, and words of a head are read back from its bytes.
use Rattle.std.proofs.Common.{◌≡◌, ◌≢◌, ℕ, ◌*◌, List, [], ◌∷◌, ◌++◌, length, drop, slice_index, sym, ap, ◌∙◌, arith, append_assoc}
use Rattle.std.specs.Prelude.{flat_map}
use Rattle.std.proofs.lemmas.Grind.{same_number_lists}
use Rattle.byteorder.specs.Endian.{IsRead, little_bytes, little_number}
use Rattle.byteorder.specs.Numbers.{little_number-reads_back}
use Rattle.rom_frame.specs.declared.frame.Frame.{Frame}
use Rattle.rom_frame.specs.declared.head.Head.{Head}
use Rattle.rom_frame.specs.Frames.{IsOfWords, bytes_of, frame, words_of_frame}
use Rattle.rom_frame.specs.Heads.{AreWords, MARK, head, head_words}
use Rattle.rom_frame.proofs.Coded.{length-bytes_of, length-words_of, word_back, words_short}

-- the third word of a frame is no mark
pub no_head : (f : Frame) (h : Head) → IsOfWords f → AreWords h → frame f ≢ head h
no_head f h small words is =
    let of_frame : little_number 8 (drop (8 * 2) (frame f)) ≡ slice_index (words_of_frame f) 2 = word_back (words_of_frame f) 2 (omega (arith, length-words_of f)) (omega (arith, words_short f small)) in
    let of_head : little_number 8 (drop (8 * 2) (head h)) ≡ MARK = word_back (head_words h) 2 (omega arith) (omega arith) in
    absurd (omega (arith, words_short f small, sym of_frame ∙ ap (λ (bs : List ℕ). little_number 8 (drop (8 * 2) bs)) is ∙ of_head))

-- the words that eight bytes each are read as are those of the head
pub head_back : (h : Head) (bytes words : List ℕ) → AreWords h → bytes ≡ head h → length words ≡ 7 → IsRead little_number 8 bytes words → words ≡ head_words h
head_back h bytes words small is long read =
    same_number_lists words (head_words h) (omega (arith, long)) (λ k within.
    read k within
    ∙ ap (λ (xs : List ℕ). little_number 8 (drop (8 * k) xs)) is
    ∙ word_back (head_words h) k (omega (arith, within, long)) (small k 0 (omega (arith, within, long))))

pub length-head : (h : Head) → length (head h) ≡ 56
length-head h = length-bytes_of (head_words h)

-- the first word is read back, whatever comes behind the head
pub head_first : (h : Head) (rest : List ℕ) → little_number 8 (head h ++ rest) ≡ 7
unfolding bytes_of
head_first h rest =
    let others : List ℕ = h.first ∷ MARK ∷ h.name.high ∷ h.name.low ∷ h.epoch ∷ h.since ∷ [] in
    ap (little_number 8) (append_assoc (little_bytes 8 7) (flat_map (little_bytes 8) others) rest)
    ∙ little_number-reads_back 8 7 (flat_map (little_bytes 8) others ++ rest) (omega arith)
