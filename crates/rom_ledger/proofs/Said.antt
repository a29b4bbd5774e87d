-- What members of a group were told, word by word.
use Rattle.std.specs.Prelude.{◌≡◌, ℕ, ◌+◌, ◌^◌, ◌<◌, ◌≤◌, ◌%◌, length, ◌==◌, Bool, true, false, ◌||◌, not, nat_lt, if◌then◌else◌, List, [], ◌∷◌, ◌++◌, Option, Some, None, slice_index, codes, decimal}
use Rattle.std.proofs.Common.{refl, sym, ap, ◌∙◌, arith}
use Rattle.std.proofs.lemmas.Bool.{le-ltb, ne_eqb}
use Rattle.std.proofs.lemmas.Fmt.{decimal_by_steps}
use Rattle.std.proofs.lemmas.List.{append_assoc, append-nil}
use Rattle.std.proofs.lemmas.List.Concat.{flat_map-cons}
use Rattle.std.specs.List.{AllByRecursion, flat_map}
use Rattle.std.specs.Str.{bytes_eq}
use Rattle.std.specs.Str.Parse.{digits_value}
use Rattle.rom_model.specs.declared.call.SingleReply.TheVariants as reply
use Rattle.rom_text.proofs.Naming.{begins, is_head}
use Rattle.rom_text.proofs.Reading.{AllAreWords, both, is_word, with_spaces, decimal_is_a_word, decimal_read, wide}
use Rattle.rom_script.proofs.GroupLines.{single_of}
use Rattle.rom_guard.specs.Texts.{done_text, next_text}
use Rattle.rom_ledger.specs.declared.call.LedgerTold.{LedgerTold}
use Rattle.rom_ledger.specs.declared.call.LedgerTold.TheVariants as told
use Rattle.rom_ledger.specs.Texts.{ToldFits, shown_told, told_text}

-- what a word and a number tell
abbrev pub told_by : List ℕ → ℕ → LedgerTold
told_by w v = if bytes_eq w (codes "other") then told.Other v else told.Heap (single_of w v)

-- the word begins the reply to a group
abbrev pub is_group : List ℕ → Bool
is_group w = bytes_eq w (codes "all") || (bytes_eq w (codes "done") || bytes_eq w (codes "undone"))

-- a word, and the number behind it where there is one
abbrev pub said_text : List ℕ → Option ℕ → List ℕ
said_text w None = w
said_text w (Some v) = w ++ 32 ∷ decimal v

abbrev pub said_number : Option ℕ → ℕ
said_number None = 0
said_number (Some v) = v

abbrev pub SaidFits : Option ℕ → Type 0
SaidFits None = Unit {0}
SaidFits (Some v) = v < 2 ^ 64

-- the words behind the first, and those that follow
abbrev pub with_number : Option ℕ → List (List ℕ) → List (List ℕ)
with_number None ws = ws
with_number (Some v) ws = decimal v ∷ ws

-- What is told is a word, or a word and a number.
pub record Said (t : LedgerTold) : Type 0 where
  pub word : List ℕ
  pub number : Option ℕ
  pub text : told_text t ≡ said_text word number
  pub begun : begins word ≡ true
  pub alone : is_group word ≡ false
  pub letter : nat_lt 59 (slice_index word 0) ≡ true
  pub names : told_by word (said_number number) ≡ t
  pub fits : ToldFits t → SaidFits number

-- a word alone
by_word : (w : List ℕ) (t : LedgerTold) → told_text t ≡ w → begins w ≡ true → is_group w ≡ false → nat_lt 59 (slice_index w 0) ≡ true → told_by w 0 ≡ t → Said t
by_word w t text begun alone letter names = record { word = w; number = None; text = text; begun = begun; alone = alone; letter = letter; names = names; fits = λ fits. tt }

-- a word and a number
by_two : (w : List ℕ) (v : ℕ) (t : LedgerTold) → told_text t ≡ w ++ 32 ∷ decimal v → begins w ≡ true → is_group w ≡ false → nat_lt 59 (slice_index w 0) ≡ true → told_by w v ≡ t → (ToldFits t → v < 2 ^ 64) → Said t
by_two w v t text begun alone letter names fits = record { word = w; number = Some v; text = text; begun = begun; alone = alone; letter = letter; names = names; fits = fits }

-- each of them is
pub said : (t : LedgerTold) → Said t
said (told.Heap reply.Queued) = by_word (codes "queued") (told.Heap reply.Queued) refl refl refl refl refl
said (told.Heap reply.Full) = by_word (codes "full") (told.Heap reply.Full) refl refl refl refl refl
said (told.Heap (reply.Head v)) = by_two (codes "head") v (told.Heap (reply.Head v)) refl refl refl refl refl (λ fits. fits)
said (told.Heap reply.Empty) = by_word (codes "empty") (told.Heap reply.Empty) refl refl refl refl refl
said (told.Heap reply.Added) = by_word (codes "added") (told.Heap reply.Added) refl refl refl refl refl
said (told.Heap reply.Present) = by_word (codes "present") (told.Heap reply.Present) refl refl refl refl refl
said (told.Heap reply.Removed) = by_word (codes "removed") (told.Heap reply.Removed) refl refl refl refl refl
said (told.Heap reply.Absent) = by_word (codes "absent") (told.Heap reply.Absent) refl refl refl refl refl
said (told.Heap reply.NoPrior) = by_word (codes "none") (told.Heap reply.NoPrior) refl refl refl refl refl
said (told.Heap (reply.Was v)) = by_two (codes "was") v (told.Heap (reply.Was v)) refl refl refl refl refl (λ fits. fits)
said (told.Heap reply.Moved) = by_word (codes "moved") (told.Heap reply.Moved) refl refl refl refl refl
said (told.Heap (reply.Short v)) = by_two (codes "short") v (told.Heap (reply.Short v)) refl refl refl refl refl (λ fits. fits)
said (told.Heap reply.Over) = by_word (codes "over") (told.Heap reply.Over) refl refl refl refl refl
said (told.Other v) = by_two (codes "other") v (told.Other v) refl refl refl refl refl (λ fits. fits)

-- what words say, from the last one back: the number before which a word comes, and what was told
abbrev pub Seen : Type 0
Seen = ℕ × List LedgerTold

-- a word before those: digits, a semicolon, or the word of what was told
abbrev with_word : List ℕ → Seen → Seen
with_word w seen =
    if nat_lt 59 (slice_index w 0) then (0, told_by w seen.0 ∷ seen.1) else
    (if slice_index w 0 == 59 then seen else (digits_value 10 w, seen.1))

abbrev pub seen_in : List (List ℕ) → Seen
seen_in [] = (0, [])
seen_in (w ∷ ws) = with_word w (seen_in ws)

-- a number's first digit
abbrev HasFirst : ℕ → List ℕ → Type 0
HasFirst n ds = (0 < length ds) × (slice_index ds 0 ≤ 57)

first_stays : (n : ℕ) (ds : List ℕ) (d : ℕ) → HasFirst n ds → HasFirst n (ds ++ d ∷ [])
first_stays n [] d has = absurd (omega (arith, has.0))
first_stays n (x ∷ ds) d has = (omega arith, has.1)

-- is neither a letter nor a semicolon
is_digit : (b : ℕ) → b ≤ 57 → (nat_lt 59 b ≡ false) × ((b == 59) ≡ false)
is_digit b few = (le-ltb 59 b (omega (arith, few)), ne_eqb b 59 (λ is. omega (arith, few, is)))

number_seen : (v : ℕ) (seen : Seen) → v < 2 ^ 64 → with_word (decimal v) seen ≡ (v, seen.1)
number_seen v seen lt =
    let has : HasFirst v (decimal v) = decimal_by_steps HasFirst (λ n small. (omega arith, omega (arith, small))) (λ n ds much has. first_stays n ds (48 + n % 10) has) v lt in
    let digit = is_digit (slice_index (decimal v) 0) has.1 in
    ap (λ t. if t then (0, told_by (decimal v) seen.0 ∷ seen.1) else (if slice_index (decimal v) 0 == 59 then seen else (digits_value 10 (decimal v), seen.1))) digit.0
    ∙ (ap (λ t. if t then seen else (digits_value 10 (decimal v), seen.1)) digit.1
    ∙ ap (λ m. (m, seen.1)) (decimal_read v (wide v lt)))

-- a word is what it tells, with the number behind it
word_seen : (w : List ℕ) (seen : Seen) → nat_lt 59 (slice_index w 0) ≡ true → with_word w seen ≡ (0, told_by w seen.0 ∷ seen.1)
word_seen w seen letter = ap (λ t. if t then (0, told_by w seen.0 ∷ seen.1) else (if slice_index w 0 == 59 then seen else (digits_value 10 w, seen.1))) letter

behind_seen : (n : Option ℕ) (ws : List (List ℕ)) (all : List LedgerTold) → SaidFits n → seen_in ws ≡ (0, all) → seen_in (with_number n ws) ≡ (said_number n, all)
behind_seen None ws all fits is = is
behind_seen (Some v) ws all fits is = ap (with_word (decimal v)) is ∙ number_seen v (0, all) fits

one_seen : (t : LedgerTold) (ws : List (List ℕ)) (all : List LedgerTold) → ToldFits t → seen_in ws ≡ (0, all) → seen_in ((said t).word ∷ with_number (said t).number ws) ≡ (0, t ∷ all)
one_seen t ws all fits is =
    let s = said t in
    ap (with_word s.word) (behind_seen s.number ws all (s.fits fits) is)
    ∙ (word_seen s.word (said_number s.number, all) s.letter
    ∙ ap (λ x. (0, x ∷ all)) s.names)

-- the words behind the first member's, and those of all
abbrev more_words : List LedgerTold → List (List ℕ)
more_words [] = []
more_words (t ∷ all) = (59 ∷ []) ∷ (said t).word ∷ with_number (said t).number (more_words all)

abbrev pub done_words : List LedgerTold → List (List ℕ)
done_words [] = []
done_words (t ∷ all) = (said t).word ∷ with_number (said t).number (more_words all)

-- they say what was told
more_seen : (all : List LedgerTold) → AllByRecursion ToldFits all → seen_in (more_words all) ≡ (0, all)
more_seen [] fits = refl
more_seen (t ∷ all) fits = one_seen t (more_words all) all fits.0 (more_seen all fits.1)

pub done_seen : (all : List LedgerTold) → AllByRecursion ToldFits all → seen_in (done_words all) ≡ (0, all)
done_seen [] fits = refl
done_seen (t ∷ all) fits = one_seen t (more_words all) all fits.0 (more_seen all fits.1)

-- the text of what is told, and what follows it
said_spaced : (w : List ℕ) (n : Option ℕ) (rest : List ℕ) (ws : List (List ℕ)) → ((v : List ℕ) → v ++ rest ≡ with_spaces v ws) → said_text w n ++ rest ≡ with_spaces w (with_number n ws)
said_spaced w None rest ws is = is w
said_spaced w (Some v) rest ws is = append_assoc w (32 ∷ decimal v) rest ∙ ap (λ t. w ++ 32 ∷ t) (is (decimal v))

one_spaced : (t : LedgerTold) (rest : List ℕ) (ws : List (List ℕ)) → ((v : List ℕ) → v ++ rest ≡ with_spaces v ws) → told_text t ++ rest ≡ with_spaces (said t).word (with_number (said t).number ws)
one_spaced t rest ws is = let s = said t in ap (λ x. x ++ rest) s.text ∙ said_spaced s.word s.number rest ws is

more_spaced : (all : List LedgerTold) (w : List ℕ) → w ++ flat_map (next_text shown_told) all ≡ with_spaces w (more_words all)
more_spaced [] w = append-nil w
more_spaced (t ∷ all) w =
    let rest : List ℕ = flat_map (next_text shown_told) all in
    let parts : flat_map (next_text shown_told) (t ∷ all) ≡ codes " ; " ++ (told_text t ++ rest) = flat_map-cons (next_text shown_told) t all ∙ append_assoc (codes " ; ") (told_text t) rest in
    ap (λ x. w ++ x) (parts ∙ ap (λ x. codes " ; " ++ x) (one_spaced t rest (more_words all) (more_spaced all)))

pub done_spaced : (all : List LedgerTold) → done_text shown_told all ≡ with_spaces (codes "done") (done_words all)
done_spaced [] = refl
done_spaced (t ∷ all) = ap (λ x. codes "done " ++ x) (one_spaced t (flat_map (next_text shown_told) all) (more_words all) (more_spaced all))

-- each of them is a word
number_is_a_word : (n : Option ℕ) (ws : List (List ℕ)) → AllAreWords ws → AllAreWords (with_number n ws)
number_is_a_word None ws words = words
number_is_a_word (Some v) ws words = (decimal_is_a_word v, words)

pub word_of : (t : LedgerTold) → is_word (said t).word ≡ true
word_of t = (both (is_word (said t).word) (not (is_head (said t).word)) (said t).begun).0

one_are_words : (t : LedgerTold) (ws : List (List ℕ)) → AllAreWords ws → AllAreWords ((said t).word ∷ with_number (said t).number ws)
one_are_words t ws words = (word_of t, number_is_a_word (said t).number ws words)

more_are_words : (all : List LedgerTold) → AllAreWords (more_words all)
more_are_words [] = tt
more_are_words (t ∷ all) = (refl, one_are_words t (more_words all) (more_are_words all))

pub done_are_words : (all : List LedgerTold) → AllAreWords (done_words all)
done_are_words [] = tt
done_are_words (t ∷ all) = one_are_words t (more_words all) (more_are_words all)

-- the words of one alone, without those that follow
pub alone_spaced : (t : LedgerTold) → told_text t ≡ with_spaces (said t).word (with_number (said t).number [])
alone_spaced t = sym (append-nil (told_text t)) ∙ one_spaced t [] [] append-nil

pub alone_are_words : (t : LedgerTold) → AllAreWords (with_number (said t).number [])
alone_are_words t = number_is_a_word (said t).number [] tt

pub alone_seen : (t : LedgerTold) → ToldFits t → seen_in ((said t).word ∷ with_number (said t).number []) ≡ (0, t ∷ [])
alone_seen t fits = one_seen t [] [] fits refl
