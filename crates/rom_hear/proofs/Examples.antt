-- What the definitions compute to, on small logs.
use Rattle.std.specs.Prelude.{◌≡◌, ℕ, true, List, [], ◌∷◌, ◌++◌, codes}
use Rattle.std.proofs.Common.{refl}
use Rattle.rom_hear.specs.Events.{Event, Heard, Said, has_ended, heard_in, known_in, known_lines, said_in}

-- A client writes three lines, in pieces that end within lines, the last one without an LF; each is answered, by one who knew more each time.
abbrev log : List (Event ℕ)
log =
    Heard (codes "len" ++ 10 ∷ codes "ge") ∷ Said (codes "a" ++ 10 ∷ []) 7 ∷ Heard (codes "t 1" ++ 13 ∷ 10 ∷ codes "x") ∷ Said (codes "b") 8 ∷ Said (10 ∷ []) 8
    ∷ Heard [] ∷ Said (codes "c" ++ 10 ∷ []) 9 ∷ []

-- nothing is known before it is heard
none_yet : known_in {K = ℕ} [] ≡ 0
none_yet = refl

-- a line is known once its LF is
first_known : known_in {K = ℕ} (Heard (codes "len") ∷ []) ≡ 0
first_known = refl

with_its_end : known_in {K = ℕ} (Heard (codes "len") ∷ Heard (10 ∷ []) ∷ []) ≡ 1
with_its_end = refl

-- an empty line is one
empty_lines : known_lines {K = ℕ} (Heard (10 ∷ 13 ∷ 10 ∷ []) ∷ []) ≡ [] ∷ [] ∷ []
empty_lines = refl

-- two lines in one piece are known at once
two_at_once : known_in {K = ℕ} (Heard (codes "len" ++ 10 ∷ codes "deq" ++ 10 ∷ codes "x") ∷ []) ≡ 2
two_at_once = refl

-- at the end a last line needs no LF, and no line stands behind the last LF
last_known : known_in {K = ℕ} (Heard (codes "len" ++ 10 ∷ codes "x") ∷ Heard [] ∷ []) ≡ 2
last_known = refl

none_behind : known_in {K = ℕ} (Heard (codes "len" ++ 10 ∷ []) ∷ Heard [] ∷ []) ≡ 1
none_behind = refl

lines_known : known_lines log ≡ codes "len" ∷ codes "get 1" ∷ codes "x" ∷ []
lines_known = refl

all_said : said_in log ≡ codes "a" ++ 10 ∷ codes "b" ++ 10 ∷ codes "c" ++ 10 ∷ []
all_said = refl

all_heard : heard_in log ≡ codes "len" ++ 10 ∷ codes "get 1" ++ 13 ∷ 10 ∷ codes "x"
all_heard = refl

ended : has_ended log ≡ true
ended = refl
