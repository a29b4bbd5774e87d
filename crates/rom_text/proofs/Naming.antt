-- The words that name a reply or an answer, and the line of a result as words.
use Rattle.std.specs.Prelude.{◌≡◌, ℕ, ◌==◌, Bool, true, not, ◌&&◌, ◌||◌, if◌then◌else◌, List, [], ◌∷◌, ◌++◌, slice_index, codes, decimal, drop, nat_lt}
use Rattle.std.proofs.Common.{refl, ap, ◌∙◌}
use Rattle.std.proofs.lemmas.List.{append_assoc}
use Rattle.std.specs.Str.{bytes_eq}
use Rattle.std.specs.Str.Parse.{digits_value}
use Rattle.rom_model.specs.declared.call.Updated.TheVariants.{Done, Spent, Failed, Doubt}
use Rattle.rom_model.specs.declared.line.LineResult.{LineResult}
use Rattle.rom_model.specs.declared.line.LineResult.TheVariants as outcome
use Rattle.rom_text.proofs.Reading.{is_word, AllAreWords, with_spaces, decimal_is_a_word}

-- a reading of a line's first word and those behind it
abbrev pub Reads : Type 0 → Type 0
Reads T = List ℕ → List (List ℕ) → T

-- the word begins a caller's line or the last line
abbrev pub is_head : List ℕ → Bool
is_head w = bytes_eq w (codes "caller") || bytes_eq w (codes "count")

-- the word begins a result's line
abbrev pub begins : List ℕ → Bool
begins w = is_word w && not (is_head w)

-- A text is words that a reading reads as the value.
pub record IsNamed {T : Type 0} (of : Reads T) (text : List ℕ) (value : T) : Type 0 where
  pub first : List ℕ
  pub others : List (List ℕ)
  pub is : text ≡ with_spaces first others
  pub begun : begins first ≡ true
  pub words : AllAreWords others
  pub names : of first others ≡ value

-- a word alone
pub by_word : {T : Type 0} (of : Reads T) (w : List ℕ) (value : T) → begins w ≡ true → of w [] ≡ value → IsNamed of w value
by_word of w value begun names = record { first = w; others = []; is = refl; begun = begun; words = tt; names = names }

-- a word and another one behind it
pub by_two : {T : Type 0} (of : Reads T) (w v : List ℕ) (value : T) → begins w ≡ true → is_word v ≡ true → of w (v ∷ []) ≡ value →
    IsNamed of (w ++ 32 ∷ v) value
by_two of w v value begun word names = record { first = w; others = v ∷ []; is = refl; begun = begun; words = (word, tt); names = names }

-- the number behind a mark
abbrev pub behind : List ℕ → ℕ
behind p = digits_value 10 (drop 1 p)

-- the number that the first word says
abbrev pub number_of : List (List ℕ) → ℕ
number_of [] = 0
number_of (w ∷ ws) = digits_value 10 w

-- the last of some words, and those before it
abbrev pub last_word : List ℕ → List (List ℕ) → List ℕ
last_word w [] = w
last_word w (v ∷ ws) = last_word v ws

abbrev pub but_last : List ℕ → List (List ℕ) → List (List ℕ)
but_last w [] = []
but_last w (v ∷ ws) = w ∷ but_last v ws

last_is : (w : List ℕ) (ws : List (List ℕ)) (p : List ℕ) → last_word w (ws ++ p ∷ []) ≡ p
last_is w [] p = refl
last_is w (v ∷ ws) p = last_is v ws p

rest_is : (w : List ℕ) (ws : List (List ℕ)) (p : List ℕ) → but_last w (ws ++ p ∷ []) ≡ w ∷ ws
rest_is w [] p = refl
rest_is w (v ∷ ws) p = ap (λ t. w ∷ t) (rest_is v ws p)

-- the result that a word names alone
abbrev pub alone : {R A : Type 0} → List ℕ → LineResult R A
alone w =
    if bytes_eq w (codes "spent") then outcome.Update Spent else
    (if bytes_eq w (codes "fault") then outcome.Update Failed else
    (if bytes_eq w (codes "doubt") then outcome.Update Doubt else outcome.Unread))

-- what stands before `@` and a place, or before `#` and a front
abbrev pub placed : {R A : Type 0} → Reads R → Reads A → List ℕ → List (List ℕ) → List ℕ → LineResult R A
placed reply_of answer_of w ws p =
    if slice_index p 0 == 64 then outcome.Update (Done (reply_of w ws) (behind p)) else outcome.Read (answer_of w ws) (behind p)

-- the result that a line's words name
abbrev pub result_of : {R A : Type 0} → Reads R → Reads A → List ℕ → List (List ℕ) → LineResult R A
result_of reply_of answer_of w [] = alone w
result_of reply_of answer_of w (v ∷ ws) = placed reply_of answer_of w (but_last v ws) (last_word v ws)

-- words before a last one name what is placed by it
pub placed_by : {R A : Type 0} (reply_of : Reads R) (answer_of : Reads A) (w : List ℕ) (ws : List (List ℕ)) (p : List ℕ) →
    result_of reply_of answer_of w (ws ++ p ∷ []) ≡ placed reply_of answer_of w ws p
placed_by reply_of answer_of w [] p = refl
placed_by reply_of answer_of w (v ∷ ws) p =
    ap (λ t. placed reply_of answer_of w t (last_word v (ws ++ p ∷ []))) (rest_is v ws p)
    ∙ ap (placed reply_of answer_of w (v ∷ ws)) (last_is v ws p)

-- one word more behind others
pub spaces_more : (w : List ℕ) (ws : List (List ℕ)) (p : List ℕ) → with_spaces w ws ++ 32 ∷ p ≡ with_spaces w (ws ++ p ∷ [])
spaces_more w [] p = refl
spaces_more w (v ∷ ws) p = append_assoc w (32 ∷ with_spaces v ws) (32 ∷ p) ∙ ap (λ t. w ++ 32 ∷ t) (spaces_more v ws p)

pub words_more : (ws : List (List ℕ)) (p : List ℕ) → AllAreWords ws → is_word p ≡ true → AllAreWords (ws ++ p ∷ [])
words_more [] p words word = (word, tt)
words_more (w ∷ ws) p words word = (words.0, words_more ws p words.1 word)

-- a mark and a number are a word
pub mark_is_a_word : (mark n : ℕ) → nat_lt 32 mark ≡ true → is_word (mark ∷ decimal n) ≡ true
mark_is_a_word mark n marked = ap (λ t. t && is_word (decimal n)) marked ∙ decimal_is_a_word n
