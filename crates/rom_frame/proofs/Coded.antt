-- Frames are read back from their bytes, and the first word of one tells its length.
use Rattle.std.proofs.Common.{◌≡◌, ℕ, zero, suc, ◌+◌, ◌-◌, ◌*◌, ◌^◌, ◌<◌, ◌≤◌, List, [], ◌∷◌, ◌++◌, length, take, drop, slice_index, refl, sym, ap, ◌∙◌, arith, false, true}
use Rattle.std.specs.Prelude.{Bool, None, Some, flat_map, nat_le, ◌&&◌, if◌then◌else◌}
use Rattle.std.proofs.lemmas.Bool.{leb-true}
use Rattle.std.proofs.lemmas.List.{append-nil, append_assoc, drop-drop, length-append, length-drop, take_all}
use Rattle.std.proofs.lemmas.Grind.{same_number_lists}
use Rattle.std.proofs.Math.Seq.{drop-append-add, take-append_seam}
use Rattle.byteorder.specs.Endian.{IsRead, little_bytes, little_number}
use Rattle.byteorder.specs.Numbers.{little_number-reads_back}
use Rattle.rom_model.specs.declared.call.Kind.{Kind}
use Rattle.rom_model.specs.declared.call.Kind.TheVariants as kind
use Rattle.rom_model.specs.declared.call.Single.{Single}
use Rattle.rom_model.specs.declared.call.Single.TheVariants.{Enq, Deq, Add, Rem, Put, Del, Move}
use Rattle.rom_model.specs.declared.call.SingleReply.{SingleReply}
use Rattle.rom_model.specs.declared.call.SingleReply.TheVariants.{Queued, Full, Head, Empty, Added, Present, Removed, Absent, NoPrior, Was, Moved, Short, Over}
use Rattle.rom_model.specs.Codes.{all_words, call_words, kind_words, reply_kind_words, reply_words, single_reply_words, single_words, read_all, read_single_reply, whole, words_reply}
use Rattle.rom_model.specs.declared.call.Reply.{Reply}
use Rattle.rom_model.specs.declared.call.Reply.TheVariants as reply
use Rattle.rom_model.specs.Groups.{HasFewReplies, HasSize}
use Rattle.rom_model.specs.Singles.{kind_of, reply_kind}
use Rattle.rom_frame.specs.declared.frame.Frame.{Frame}
use Rattle.rom_frame.specs.Frames.{IsOfWords, bytes_of, frame, words_of_frame}

pub length-bytes_of : (ws : List ℕ) → length (bytes_of ws) ≡ 8 * length ws
unfolding bytes_of
length-bytes_of [] = refl
length-bytes_of (w ∷ ws) = omega (arith, length-bytes_of ws)

-- a word is read back from its eight bytes
pub word_back : (ws : List ℕ) (k : ℕ) → k < length ws → slice_index ws k < 2 ^ 64 → little_number 8 (drop (8 * k) (bytes_of ws)) ≡ slice_index ws k
unfolding bytes_of
word_back [] k within small = absurd (omega (arith, within))
word_back (w ∷ ws) zero within small = little_number-reads_back 8 w (flat_map (little_bytes 8) ws) small
word_back (w ∷ ws) (suc k) within small =
    let next : 8 * suc k ≡ 8 + 8 * k = omega arith in
    ap (λ (n : ℕ). little_number 8 (drop n (bytes_of (w ∷ ws)))) next
    ∙ ap (little_number 8) (drop-append-add (little_bytes 8 w) (flat_map (little_bytes 8) ws) (8 * k))
    ∙ word_back ws k (omega (arith, within)) small

and-right : (a b : Bool) → (a && b) ≡ true → b ≡ true
and-right true b is = is
and-right false b is = absurd (let never : false ≡ true = is in cc)

single_short : (c : Single) → length (single_words c) ≤ 4
single_short (Enq v) = omega arith
single_short Deq = omega arith
single_short (Add k) = omega arith
single_short (Rem k) = omega arith
single_short (Put k v) = omega arith
single_short (Del k) = omega arith
single_short (Move a b d) = omega arith

told_short : (r : SingleReply) → length (single_reply_words r) ≤ 2
told_short Queued = omega arith
told_short Full = omega arith
told_short (Head v) = omega arith
told_short Empty = omega arith
told_short Added = omega arith
told_short Present = omega arith
told_short Removed = omega arith
told_short Absent = omega arith
told_short NoPrior = omega arith
told_short (Was v) = omega arith
told_short Moved = omega arith
told_short (Short v) = omega arith
told_short Over = omega arith

members_short : (calls : List Single) → length (all_words single_words calls) ≤ 4 * length calls
members_short [] = omega arith
members_short (c ∷ calls) = omega (arith, single_short c, members_short calls, length-append (single_words c) (all_words single_words calls))

all_told_short : (replies : List SingleReply) → length (all_words single_reply_words replies) ≤ 2 * length replies
all_told_short [] = omega arith
all_told_short (r ∷ replies) = omega (arith, told_short r, all_told_short replies, length-append (single_reply_words r) (all_words single_reply_words replies))

kind_short : (k : Kind Single (List Single)) → HasSize k → length (kind_words k) ≤ 40
kind_short (kind.Single c) size = omega (arith, single_short c)
kind_short (kind.Several calls) size = omega (arith, members_short calls, leb-true (length calls) 8 (and-right (nat_le 2 (length calls)) (nat_le (length calls) 8) size))

reply_kind_short : (k : Kind SingleReply (List SingleReply)) → HasFewReplies k → length (reply_kind_words k) ≤ 20
reply_kind_short (kind.Single r) few = omega (arith, told_short r)
reply_kind_short (kind.Several replies) few = omega (arith, all_told_short replies, leb-true (length replies) 8 few)

-- a reply whose words are read as it tells at most eight
pub few_read : (r : Reply) → words_reply (reply_words r) ≡ Some r → HasFewReplies (reply_kind r)
few_read reply.Queued is = tt
few_read reply.Full is = tt
few_read (reply.Head v) is = tt
few_read reply.Empty is = tt
few_read reply.Added is = tt
few_read reply.Present is = tt
few_read reply.Removed is = tt
few_read reply.Absent is = tt
few_read reply.NoPrior is = tt
few_read (reply.Was v) is = tt
few_read reply.Moved is = tt
few_read (reply.Short v) is = tt
few_read reply.Over is = tt
few_read (reply.All replies) is = by_size (nat_le (length replies) 8) is
  where
    by_size : (b : Bool) → (if b then whole reply.All (read_all read_single_reply (length replies) (all_words single_reply_words replies)) else None) ≡ Some (reply.All replies) → b ≡ true
    by_size true is = refl
    by_size false is = absurd (let never : None ≡ Some (reply.All replies) = is in cc)

pub length-words_of : (f : Frame) → length (words_of_frame f) ≡ 4 + length (call_words f.call) + length (reply_words f.reply)
length-words_of f = omega (arith, length-append (call_words f.call) (length (reply_words f.reply) ∷ reply_words f.reply))

-- a frame that a program can have has at most 64 words, of which 40 are its call's and 20 its reply's
pub words_short : (f : Frame) → IsOfWords f → (length (call_words f.call) ≤ 40) × (length (reply_words f.reply) ≤ 20)
words_short f small = (kind_short (kind_of f.call) small.members, reply_kind_short (reply_kind f.reply) small.replies)

-- how many bytes a frame has
pub length-frame : (f : Frame) → length (frame f) ≡ 8 * (4 + length (call_words f.call) + length (reply_words f.reply))
length-frame f = length-bytes_of (words_of_frame f) ∙ ap (λ (n : ℕ). 8 * n) (length-words_of f)

-- the first word is read back, whatever comes behind the frame
pub first_back : (f : Frame) (rest : List ℕ) → IsOfWords f → little_number 8 (frame f ++ rest) ≡ 4 + length (call_words f.call) + length (reply_words f.reply)
unfolding bytes_of
first_back f rest small =
    let first : ℕ = 4 + length (call_words f.call) + length (reply_words f.reply) in
    let others : List ℕ = f.place ∷ length (call_words f.call) ∷ (call_words f.call ++ length (reply_words f.reply) ∷ reply_words f.reply) in
    let short = words_short f small in
    ap (little_number 8) (append_assoc (little_bytes 8 first) (flat_map (little_bytes 8) others) rest)
    ∙ little_number-reads_back 8 first (flat_map (little_bytes 8) others ++ rest) (omega (arith, short.0, short.1))

-- a frame's first word tells how many bytes it has
pub length_by_first : (f : Frame) → IsOfWords f → length (frame f) ≡ 8 * little_number 8 (frame f)
length_by_first f small = length-frame f ∙ ap (λ (n : ℕ). 8 * n) (sym (ap (little_number 8) (sym (append-nil (frame f))) ∙ first_back f [] small))

none_left : (xs : List ℕ) → length xs ≡ 0 → xs ≡ []
none_left [] is = refl
none_left (x ∷ xs) is = absurd (omega (arith, is))

-- no proper prefix of a frame is a frame
pub no_prefix : (g f : Frame) (rest : List ℕ) → IsOfWords g → IsOfWords f → frame g ++ rest ≡ frame f → rest ≡ []
no_prefix g f rest small small_2 same =
    let firsts : 4 + length (call_words g.call) + length (reply_words g.reply) ≡ 4 + length (call_words f.call) + length (reply_words f.reply) =
    sym (first_back g rest small) ∙ ap (little_number 8) (same ∙ sym (append-nil (frame f))) ∙ first_back f [] small_2 in
    none_left rest (omega (arith, firsts, ap length same, length-append (frame g) rest, length-frame g, length-frame f))

-- the words that eight bytes each are read as are those of the frame
pub read_back : (f : Frame) (bytes words : List ℕ) → IsOfWords f → bytes ≡ frame f → 8 * length words ≡ length bytes → IsRead little_number 8 bytes words → words ≡ words_of_frame f
read_back f bytes words small is long read =
    let many : length words ≡ length (words_of_frame f) = omega (arith, ap length is, long, length-bytes_of (words_of_frame f)) in
    same_number_lists words (words_of_frame f) many (λ k within.
    read k within
    ∙ ap (λ (xs : List ℕ). little_number 8 (drop (8 * k) xs)) is
    ∙ word_back (words_of_frame f) k (omega (arith, within, many)) (small.words k 0 (omega (arith, within, many))))

-- the words of the call, and those of the reply, among the words of a frame
pub call_there : (f : Frame) (words : List ℕ) → words ≡ words_of_frame f → take (3 + slice_index words 2 - 3) (drop 3 words) ≡ call_words f.call
call_there f words is =
    ap (λ (n : ℕ). take n (drop 3 words)) (let here : 3 + slice_index words 2 - 3 ≡ slice_index words 2 = omega arith in here)
    ∙ ap (λ (xs : List ℕ). take (slice_index xs 2) (drop 3 xs)) is
    ∙ take-append_seam (call_words f.call) (length (reply_words f.reply) ∷ reply_words f.reply)

behind_call : (f : Frame) (words : List ℕ) → words ≡ words_of_frame f → drop (3 + slice_index words 2 + 1) words ≡ reply_words f.reply
behind_call f words is =
    ap (λ (xs : List ℕ). drop (3 + slice_index xs 2 + 1) xs) is
    ∙ ap (λ (n : ℕ). drop n (words_of_frame f)) (let next : 3 + length (call_words f.call) + 1 ≡ 3 + (length (call_words f.call) + 1) = omega arith in next)
    ∙ sym (drop-drop (length (call_words f.call) + 1) 3 (words_of_frame f))
    ∙ drop-append-add (call_words f.call) (length (reply_words f.reply) ∷ reply_words f.reply) 1

pub reply_there : (f : Frame) (words : List ℕ) → words ≡ words_of_frame f → take (length words - (3 + slice_index words 2 + 1)) (drop (3 + slice_index words 2 + 1) words) ≡ reply_words f.reply
reply_there f words is =
    take_all _ (drop (3 + slice_index words 2 + 1) words) (omega (arith, length-drop (3 + slice_index words 2 + 1) words))
    ∙ behind_call f words is
