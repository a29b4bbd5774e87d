-- The lines of groups, word by word.
use Rattle.std.specs.Prelude.{◌≡◌, ℕ, ◌+◌, ◌^◌, ◌<◌, ◌≤◌, ◌%◌, length, ◌==◌, true, nat_lt, if◌then◌else◌, List, [], ◌∷◌, ◌++◌, slice_index, codes, decimal}
use Rattle.std.proofs.Common.{refl, ap, ◌∙◌, arith}
use Rattle.std.proofs.lemmas.Bool.{lt-ltb}
use Rattle.std.proofs.lemmas.Fmt.{decimal_by_steps}
use Rattle.std.proofs.lemmas.List.{append_assoc, append-nil}
use Rattle.std.proofs.lemmas.List.Concat.{flat_map-cons}
use Rattle.std.specs.List.{AllByRecursion, flat_map}
use Rattle.std.specs.Str.{bytes_eq}
use Rattle.std.specs.Str.Parse.{digits_value}
use Rattle.rom_model.specs.declared.call.SingleReply.{SingleReply}
use Rattle.rom_model.specs.declared.call.SingleReply.TheVariants as told
use Rattle.rom_text.specs.Trio.{SingleFits, all_text, next_text, single_text}
use Rattle.rom_text.proofs.Reading.{AllAreWords, with_spaces, decimal_is_a_word, decimal_read, wide}

-- the reply that a word and a number name
abbrev pub single_of : List ℕ → ℕ → SingleReply
single_of w v =
    if bytes_eq w (codes "queued") then told.Queued else
    (if bytes_eq w (codes "full") then told.Full else
    (if bytes_eq w (codes "head") then told.Head v else
    (if bytes_eq w (codes "empty") then told.Empty else
    (if bytes_eq w (codes "added") then told.Added else
    (if bytes_eq w (codes "present") then told.Present else
    (if bytes_eq w (codes "removed") then told.Removed else
    (if bytes_eq w (codes "absent") then told.Absent else
    (if bytes_eq w (codes "none") then told.NoPrior else
    (if bytes_eq w (codes "was") then told.Was v else
    (if bytes_eq w (codes "moved") then told.Moved else
    (if bytes_eq w (codes "short") then told.Short v else told.Over)))))))))))

-- what the words behind `all` say, from the last one back: the number before which a word comes, and the replies
abbrev pub Seen : Type 0
Seen = ℕ × List SingleReply

-- a word before those: digits, a semicolon, or the word of a reply
abbrev with_word : List ℕ → Seen → Seen
with_word w seen =
    if nat_lt (slice_index w 0) 58 then (digits_value 10 w, seen.1) else
    (if slice_index w 0 == 59 then seen else (0, single_of w seen.0 ∷ seen.1))

abbrev pub seen_in : List (List ℕ) → Seen
seen_in [] = (0, [])
seen_in (w ∷ ws) = with_word w (seen_in ws)

-- a number's first digit
abbrev HasFirst : ℕ → List ℕ → Type 0
HasFirst n ds = (0 < length ds) × (slice_index ds 0 ≤ 57)

first_stays : (n : ℕ) (ds : List ℕ) (d : ℕ) → HasFirst n ds → HasFirst n (ds ++ d ∷ [])
first_stays n [] d has = absurd (omega (arith, has.0))
first_stays n (x ∷ ds) d has = (omega arith, has.1)

digit_first : (v : ℕ) → v < 2 ^ 64 → nat_lt (slice_index (decimal v) 0) 58 ≡ true
digit_first v lt =
    let has : HasFirst v (decimal v) = decimal_by_steps HasFirst (λ n small. (omega arith, omega (arith, small))) (λ n ds much has. first_stays n ds (48 + n % 10) has) v lt in
    lt-ltb (slice_index (decimal v) 0) 58 (omega (arith, has.1))

number_seen : (v : ℕ) (seen : Seen) → v < 2 ^ 64 → with_word (decimal v) seen ≡ (v, seen.1)
number_seen v seen lt =
    ap (λ t. if t then (digits_value 10 (decimal v), seen.1) else
    (if slice_index (decimal v) 0 == 59 then seen else (0, single_of (decimal v) seen.0 ∷ seen.1))) (digit_first v lt)
    ∙ ap (λ m. (m, seen.1)) (decimal_read v (wide v lt))

-- the first word of a reply, and those behind it
abbrev first_word : SingleReply → List ℕ
first_word told.Queued = codes "queued"
first_word told.Full = codes "full"
first_word (told.Head v) = codes "head"
first_word told.Empty = codes "empty"
first_word told.Added = codes "added"
first_word told.Present = codes "present"
first_word told.Removed = codes "removed"
first_word told.Absent = codes "absent"
first_word told.NoPrior = codes "none"
first_word (told.Was v) = codes "was"
first_word told.Moved = codes "moved"
first_word (told.Short v) = codes "short"
first_word told.Over = codes "over"

abbrev with_number : SingleReply → List (List ℕ) → List (List ℕ)
with_number (told.Head v) ws = decimal v ∷ ws
with_number (told.Was v) ws = decimal v ∷ ws
with_number (told.Short v) ws = decimal v ∷ ws
with_number other ws = ws

-- the words of the replies behind the first; and of all
abbrev more_words : List SingleReply → List (List ℕ)
more_words [] = []
more_words (r ∷ replies) = (59 ∷ []) ∷ first_word r ∷ with_number r (more_words replies)

abbrev pub group_words : List SingleReply → List (List ℕ)
group_words [] = []
group_words (r ∷ replies) = first_word r ∷ with_number r (more_words replies)

-- the text of a reply and what follows it
reply_spaced : (r : SingleReply) (rest : List ℕ) (ws : List (List ℕ)) → ((w : List ℕ) → w ++ rest ≡ with_spaces w ws) → single_text r ++ rest ≡ with_spaces (first_word r) (with_number r ws)
reply_spaced (told.Head v) rest ws is = append_assoc (codes "head ") (decimal v) rest ∙ ap (λ t. codes "head " ++ t) (is (decimal v))
reply_spaced (told.Was v) rest ws is = append_assoc (codes "was ") (decimal v) rest ∙ ap (λ t. codes "was " ++ t) (is (decimal v))
reply_spaced (told.Short v) rest ws is = append_assoc (codes "short ") (decimal v) rest ∙ ap (λ t. codes "short " ++ t) (is (decimal v))
reply_spaced told.Queued rest ws is = is (codes "queued")
reply_spaced told.Full rest ws is = is (codes "full")
reply_spaced told.Empty rest ws is = is (codes "empty")
reply_spaced told.Added rest ws is = is (codes "added")
reply_spaced told.Present rest ws is = is (codes "present")
reply_spaced told.Removed rest ws is = is (codes "removed")
reply_spaced told.Absent rest ws is = is (codes "absent")
reply_spaced told.NoPrior rest ws is = is (codes "none")
reply_spaced told.Moved rest ws is = is (codes "moved")
reply_spaced told.Over rest ws is = is (codes "over")

listed_spaced : (replies : List SingleReply) (w : List ℕ) → w ++ flat_map next_text replies ≡ with_spaces w (more_words replies)
listed_spaced [] w = append-nil w
listed_spaced (r ∷ replies) w =
    let parts : flat_map next_text (r ∷ replies) ≡ codes " ; " ++ (single_text r ++ flat_map next_text replies) =
    flat_map-cons next_text r replies ∙ append_assoc (codes " ; ") (single_text r) (flat_map next_text replies) in
    ap (λ t. w ++ t) (parts ∙ ap (λ t. codes " ; " ++ t) (reply_spaced r (flat_map next_text replies) (more_words replies) (listed_spaced replies)))

pub all_spaced : (replies : List SingleReply) → all_text replies ≡ with_spaces (codes "all") (group_words replies)
all_spaced [] = refl
all_spaced (r ∷ replies) = ap (λ t. codes "all " ++ t) (reply_spaced r (flat_map next_text replies) (more_words replies) (listed_spaced replies))

-- these words say the replies
reply_seen : (r : SingleReply) (ws : List (List ℕ)) (replies : List SingleReply) → SingleFits r → seen_in ws ≡ (0, replies) → seen_in (first_word r ∷ with_number r ws) ≡ (0, r ∷ replies)
reply_seen (told.Head v) ws replies fits is = ap (λ s. with_word (codes "head") (with_word (decimal v) s)) is ∙ ap (with_word (codes "head")) (number_seen v (0, replies) fits)
reply_seen (told.Was v) ws replies fits is = ap (λ s. with_word (codes "was") (with_word (decimal v) s)) is ∙ ap (with_word (codes "was")) (number_seen v (0, replies) fits)
reply_seen (told.Short v) ws replies fits is = ap (λ s. with_word (codes "short") (with_word (decimal v) s)) is ∙ ap (with_word (codes "short")) (number_seen v (0, replies) fits)
reply_seen told.Queued ws replies fits is = ap (with_word (codes "queued")) is
reply_seen told.Full ws replies fits is = ap (with_word (codes "full")) is
reply_seen told.Empty ws replies fits is = ap (with_word (codes "empty")) is
reply_seen told.Added ws replies fits is = ap (with_word (codes "added")) is
reply_seen told.Present ws replies fits is = ap (with_word (codes "present")) is
reply_seen told.Removed ws replies fits is = ap (with_word (codes "removed")) is
reply_seen told.Absent ws replies fits is = ap (with_word (codes "absent")) is
reply_seen told.NoPrior ws replies fits is = ap (with_word (codes "none")) is
reply_seen told.Moved ws replies fits is = ap (with_word (codes "moved")) is
reply_seen told.Over ws replies fits is = ap (with_word (codes "over")) is

more_seen : (replies : List SingleReply) → AllByRecursion SingleFits replies → seen_in (more_words replies) ≡ (0, replies)
more_seen [] fits = refl
more_seen (r ∷ replies) fits = reply_seen r (more_words replies) replies fits.0 (more_seen replies fits.1)

pub group_seen : (replies : List SingleReply) → AllByRecursion SingleFits replies → seen_in (group_words replies) ≡ (0, replies)
group_seen [] fits = refl
group_seen (r ∷ replies) fits = reply_seen r (more_words replies) replies fits.0 (more_seen replies fits.1)

number_words : (r : SingleReply) (ws : List (List ℕ)) → AllAreWords ws → AllAreWords (first_word r ∷ with_number r ws)
number_words (told.Head v) ws all = (refl, (decimal_is_a_word v, all))
number_words (told.Was v) ws all = (refl, (decimal_is_a_word v, all))
number_words (told.Short v) ws all = (refl, (decimal_is_a_word v, all))
number_words told.Queued ws all = (refl, all)
number_words told.Full ws all = (refl, all)
number_words told.Empty ws all = (refl, all)
number_words told.Added ws all = (refl, all)
number_words told.Present ws all = (refl, all)
number_words told.Removed ws all = (refl, all)
number_words told.Absent ws all = (refl, all)
number_words told.NoPrior ws all = (refl, all)
number_words told.Moved ws all = (refl, all)
number_words told.Over ws all = (refl, all)

more_are_words : (replies : List SingleReply) → AllAreWords (more_words replies)
more_are_words [] = tt
more_are_words (r ∷ replies) = (refl, number_words r (more_words replies) (more_are_words replies))

pub group_are_words : (replies : List SingleReply) → AllAreWords (group_words replies)
group_are_words [] = tt
group_are_words (r ∷ replies) = number_words r (more_words replies) (more_are_words replies)
