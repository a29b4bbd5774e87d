-- The lines of bytes, by the LFs among them.
use Rattle.std.specs.Prelude.{◌≡◌, ◌≢◌, ℕ, ◌+◌, ◌-◌, ◌≤◌, ◌<◌, ◌==◌, Bool, true, false, cond, List, [], ◌∷◌, ◌++◌, length, take, drop, map, slice_index, Option, None, Some, IfNone, IfSome}
use Rattle.std.proofs.Common.{zero, suc, refl, sym, ap, ◌∙◌, arith, ne_eqb, eqb-true, eq-eqb, length-take, subst}
use Rattle.std.proofs.lemmas.List.{drop_more, take-append-drop, take_all}
use Rattle.memchr.specs.Find.{IsFirstByte, is_byte}
use Rattle.rom_text.specs.Lines.{lines_of, onto_first, pieces_of, without_cr}
use Rattle.rom_hear.specs.Events.{EndsAt, ends_in}

-- what stands before the first LF is the first piece
pub cut_piece : (piece rest : List ℕ) → ends_in piece ≡ 0 → pieces_of (piece ++ 10 ∷ rest) ≡ piece ∷ pieces_of rest
cut_piece [] rest none = refl
cut_piece (b ∷ bs) rest none = at (b == 10) (cut_piece bs rest) none
  where
    at : (lf : Bool) → (ends_in bs ≡ 0 → pieces_of (bs ++ 10 ∷ rest) ≡ bs ∷ pieces_of rest) → cond lf (ends_in bs + 1) (ends_in bs) ≡ 0 → cond lf ([] ∷ pieces_of (bs ++ 10 ∷ rest)) (onto_first b (pieces_of (bs ++ 10 ∷ rest))) ≡ (b ∷ bs) ∷ pieces_of rest
    at true more none = absurd (omega (arith, none))
    at false more none = ap (onto_first b) (more none)

-- bytes without an LF are one piece
pub last_piece : (b : ℕ) (bs : List ℕ) → ends_in (b ∷ bs) ≡ 0 → pieces_of (b ∷ bs) ≡ (b ∷ bs) ∷ []
last_piece b [] none = at (b == 10) none
  where
    at : (lf : Bool) → cond lf (ends_in [] + 1) (ends_in []) ≡ 0 → cond lf ([] ∷ []) (onto_first b []) ≡ (b ∷ []) ∷ []
    at true none = absurd (omega (arith, none))
    at false none = refl
last_piece b (c ∷ bs) none = at (b == 10) (last_piece c bs) none
  where
    at : (lf : Bool) → (ends_in (c ∷ bs) ≡ 0 → pieces_of (c ∷ bs) ≡ (c ∷ bs) ∷ []) → cond lf (ends_in (c ∷ bs) + 1) (ends_in (c ∷ bs)) ≡ 0 → cond lf ([] ∷ pieces_of (c ∷ bs)) (onto_first b (pieces_of (c ∷ bs))) ≡ (b ∷ c ∷ bs) ∷ []
    at true more none = absurd (omega (arith, none))
    at false more none = ap (onto_first b) (more none)

-- and so of lines
pub cut_line : (piece rest : List ℕ) → ends_in piece ≡ 0 → lines_of (piece ++ 10 ∷ rest) ≡ without_cr piece ∷ lines_of rest
cut_line piece rest none = ap (map without_cr) (cut_piece piece rest none)

pub last_line : (piece : List ℕ) → 0 < length piece → ends_in piece ≡ 0 → lines_of piece ≡ without_cr piece ∷ []
last_line [] some none = absurd (omega (arith, some))
last_line (b ∷ bs) some none = ap (map without_cr) (last_piece b bs none)

-- no LF was found before this index
pub none_before : (bytes : List ℕ) (n : ℕ) → ((k : ℕ) → k < n → slice_index bytes k ≢ 10) → ends_in (take n bytes) ≡ 0
none_before bytes zero before = refl
none_before [] (suc n) before = refl
none_before (b ∷ bs) (suc n) before =
    ap (λ (lf : Bool). cond lf (ends_in (take n bs) + 1) (ends_in (take n bs))) (ne_eqb b 10 (before 0 (omega arith)))
    ∙ none_before bs n (λ k lt. before (suc k) (omega (arith, lt)))

-- a line is no more than a byte shorter than its piece
pub length-without_cr : (piece : List ℕ) → length piece ≤ length (without_cr piece) + 1
length-without_cr piece = at (slice_index piece (length piece - 1) == 13)
  where
    at : (cr : Bool) → length piece ≤ length (cond cr (take (length piece - 1) piece) piece) + 1
    at true = omega (arith, length-take (length piece - 1) piece)
    at false = omega arith

-- what stands at an index, between what stands before and behind it
split_at : (bytes : List ℕ) (n : ℕ) → n < length bytes → slice_index bytes n ≡ 10 → bytes ≡ take n bytes ++ 10 ∷ drop (n + 1) bytes
split_at bytes n lt is =
    sym (take-append-drop n bytes) ∙ ap (λ (bs : List ℕ). take n bytes ++ bs) (drop_more bytes n 0 lt ∙ ap (λ b. b ∷ drop (n + 1) bytes) is)

-- what a search for an LF finds
pub first_end : (bytes : List ℕ) (found : Option ℕ) → IsFirstByte (is_byte 10) bytes found → IfSome found (λ n. EndsAt n bytes) × IfNone found (ends_in bytes ≡ 0)
first_end bytes None nowhere =
    (tt, subst (λ (bs : List ℕ). ends_in bs ≡ 0) (take_all (length bytes) bytes (omega arith)) (none_before bytes (length bytes) (λ k lt is. nowhere k (omega arith) lt (eq-eqb (slice_index bytes k) 10 is))))
first_end bytes (Some n) (first, at) =
    ((first.high, split_at bytes n first.high (eqb-true (slice_index bytes n) 10 at), none_before bytes n (λ k lt is. first.before k (omega arith) lt (eq-eqb (slice_index bytes k) 10 is))), tt)
