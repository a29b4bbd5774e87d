-- The first piece of some bytes.
use Rattle.std.specs.Prelude.{◌≡◌, ◌≢◌, ℕ, ◌+◌, ◌-◌, ◌≤◌, ◌<◌, ◌==◌, Bool, true, false, cond, List, [], ◌∷◌, length, take, drop, map, min, slice_index, slice_range}
use Rattle.std.proofs.Common.{take-take, zero, suc, sym, ap, subst, ◌∙◌, arith, eq-eqb, ne_eqb, length-drop, add-one}
use Rattle.std.proofs.lemmas.List.{take_all, take_min, drop_min, drop-drop, length-take}
use Rattle.rom_text.specs.Lines.{pieces_of, lines_of, without_cr, onto_first}

at_lf : (b : ℕ) (bs : List ℕ) → b ≡ 10 → pieces_of (b ∷ bs) ≡ [] ∷ pieces_of bs
at_lf b bs is = ap (λ t. cond t ([] ∷ pieces_of bs) (onto_first b (pieces_of bs))) (eq-eqb b 10 is)

past_lf : (b : ℕ) (bs : List ℕ) → b ≢ 10 → pieces_of (b ∷ bs) ≡ onto_first b (pieces_of bs)
past_lf b bs isnt = ap (λ t. cond t ([] ∷ pieces_of bs) (onto_first b (pieces_of bs))) (ne_eqb b 10 isnt)

-- up to the first LF, or to the end
pub first_piece : (bytes : List ℕ) (end : ℕ) → 0 < length bytes → end ≤ length bytes →
    ((k : ℕ) → k < end → slice_index bytes k ≢ 10) → (end < length bytes → slice_index bytes end ≡ 10) →
    pieces_of bytes ≡ take end bytes ∷ pieces_of (drop (suc end) bytes)
first_piece [] end some within before found = absurd (omega arith)
first_piece (b ∷ bs) zero some within before found = at_lf b bs (found (omega arith))
first_piece (b ∷ []) (suc zero) some within before found = past_lf b [] (before 0 (omega arith))
first_piece (b ∷ []) (suc (suc k)) some within before found = absurd (omega arith)
first_piece (b ∷ c ∷ bs) (suc k) some within before found =
    past_lf b (c ∷ bs) (before 0 (omega arith))
    ∙ ap (onto_first b) (first_piece (c ∷ bs) k (omega arith) (omega arith) (λ j lt. before (suc j) (omega arith)) (λ lt. found (omega arith)))

front_by : (b : Bool) (n : ℕ) (piece : List ℕ) → cond b (take n piece) piece ≡ take (length (cond b (take n piece) piece)) piece
front_by true n piece = sym (take_min n piece) ∙ ap (λ k. take k piece) (omega (arith, length-take n piece))
front_by false n piece = sym (take_all (length piece) piece (omega arith))

-- a line is the front of what stands where its piece begins
line_is_front : (rest : List ℕ) (len : ℕ) (line : List ℕ) → line ≡ without_cr (take len rest) → take (length line) rest ≡ line
line_is_front rest len line is =
    let piece : List ℕ = take len rest in
    let front : line ≡ take (length line) piece = subst (λ (l : List ℕ). l ≡ take (length l) piece) (sym is) (front_by (slice_index piece (length piece - 1) == 13) (length piece - 1) piece) in
    let short : length line ≤ length piece = omega (arith, ap length front, length-take (length line) piece) in
    let whole : length line ≤ length (take len rest) = short in
    sym (front ∙ take-take (length line) len rest (omega (arith, length-take len rest)))

-- the first line of what stands there, and those behind it
line_of_rest : (rest line : List ℕ) (len next : ℕ) → 0 < length rest → len ≤ length rest → ((k : ℕ) → k < len → slice_index rest k ≢ 10) → (len < length rest → slice_index rest len ≡ 10) →
    next ≡ min (len + 1) (length rest) → line ≡ without_cr (take len rest) → lines_of rest ≡ take (length line) rest ∷ lines_of (drop next rest)
line_of_rest rest line len next some within before found next_is line_is =
    ap (map without_cr) (first_piece rest len some within before found)
    ∙ (λ i. (sym line_is ∙ sym (line_is_front rest len line line_is)) i ∷ lines_of (sym (ap (λ n. drop n rest) next_is ∙ (drop_min (len + 1) rest ∙ ap (λ n. drop n rest) (add-one len))) i))

-- the line that begins at an index of the bytes
pub line_at : (bytes rest line : List ℕ) (start len next : ℕ) → start < length bytes → rest ≡ drop start bytes → len ≤ length rest →
    ((k : ℕ) → k < len → slice_index rest k ≢ 10) → (len < length rest → slice_index rest len ≡ 10) →
    next ≡ min (len + 1) (length rest) → line ≡ without_cr (take len rest) →
    lines_of (drop start bytes) ≡ slice_range bytes start (start + length line) ∷ lines_of (drop (start + next) bytes)
line_at bytes rest line start len next lt rest_is within before found next_is line_is =
    ap lines_of (sym rest_is)
    ∙ line_of_rest rest line len next (omega (arith, ap length rest_is, length-drop start bytes)) within before found next_is line_is
    ∙ (λ i. ap (λ r. take (length line) r) rest_is i ∷ lines_of ((ap (λ r. drop next r) rest_is ∙ drop-drop next start bytes) i))
    ∙ ap (λ n. take n (drop start bytes) ∷ lines_of (drop (start + next) bytes)) (let e : length line ≡ start + length line - start = omega arith in e)

-- what `&bytes[start..]` reads
pub rest_from : (bytes : List ℕ) (start : ℕ) → take (length bytes - start) (drop start bytes) ≡ drop start bytes
rest_from bytes start = take_all _ _ (omega (arith, length-drop start bytes))
