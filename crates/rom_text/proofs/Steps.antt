-- The steps of a script, line by line.
use Rattle.std.specs.Prelude.{◌≡◌, ℕ, ◌+◌, ◌<◌, ◌≤◌, ◌==◌, Bool, true, false, cond, List, [], ◌∷◌, ◌++◌, length, drop}
use Rattle.std.proofs.Common.{arith, rules, sym, subst, append-nil, length-drop}
use Rattle.std.proofs.lemmas.List.{drop_all, length-map}
use Rattle.rom_model.specs.declared.line.Step.{Step}
use Rattle.rom_text.specs.Limits.{HasManyLines}
use Rattle.rom_text.specs.Lines.{AreRead, lines_of, onto_first, pieces_of, without_cr}
use Rattle.rom_text.specs.declared.read.TheConstants.{MAX_LINES}

-- nothing is left
pub read_all : {C Q : Type 0} (Reads : List ℕ → Step C Q → Type 0) (bytes : List ℕ) (start : ℕ) (steps : List (Step C Q)) →
    ((more : List (Step C Q)) → AreRead Reads (lines_of (drop start bytes)) more → AreRead Reads (lines_of bytes) (steps ++ more)) → length bytes ≤ start → AreRead Reads (lines_of bytes) steps
read_all Reads bytes start steps so_far none =
    subst (λ xs. AreRead Reads (lines_of bytes) xs) (append-nil steps) (so_far [] (subst (λ bs. AreRead Reads (lines_of bs) []) (sym (drop_all start bytes none)) tt))

-- a byte stands in some piece
some_piece : (lf : Bool) (b : ℕ) (pieces : List (List ℕ)) → 0 < length (cond lf ([] ∷ pieces) (onto_first b pieces))
some_piece true b pieces = omega arith
some_piece false b [] = omega arith
some_piece false b (piece ∷ pieces) = omega arith

-- bytes have a line
some_line : (bytes : List ℕ) → 0 < length bytes → 0 < length (lines_of bytes)
some_line [] some = absurd (search rules)
some_line (b ∷ bs) some = subst (λ n. 0 < n) (sym (length-map (pieces_of (b ∷ bs)) without_cr)) (some_piece (b == 10) b (pieces_of bs))

-- lines as many as a script may have are read, and some are left
pub more_left : (bytes : List ℕ) (start read : ℕ) → start < length bytes → read ≡ MAX_LINES → length (lines_of bytes) ≡ read + length (lines_of (drop start bytes)) → HasManyLines bytes
more_left bytes start read lt full many = omega (arith, full, many, some_line (drop start bytes) (omega (arith, lt, length-drop start bytes)))
