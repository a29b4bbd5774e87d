-- The lines of scripts, and what they ask an object for.
use Rattle.std.specs.Prelude.{◌≡◌, ℕ, ◌-◌, ◌==◌, List, [], ◌∷◌, length, take, map, decimal, slice_index, if◌then◌else◌, Option, Some, IfSome}
use Rattle.rom_model.specs.declared.line.Step.{Step}
use Rattle.rom_model.specs.declared.line.Step.TheVariants as step
use Rattle.rom_text.specs.declared.lines.Parsed.{Parsed}
use Rattle.rom_text.specs.declared.lines.Parsed.TheVariants as asked
use Rattle.rom_text.specs.Streams.{ShownSource}

-- the byte goes onto the first piece
abbrev pub onto_first : ℕ → List (List ℕ) → List (List ℕ)
onto_first b [] = (b ∷ []) ∷ []
onto_first b (piece ∷ pieces) = (b ∷ piece) ∷ pieces

-- the pieces between the LFs; a last piece without LF counts if it isn't empty
abbrev pub pieces_of : List ℕ → List (List ℕ)
pieces_of [] = []
pieces_of (b ∷ bs) = if b == 10 then [] ∷ pieces_of bs else onto_first b (pieces_of bs)

-- one CR at a line's end isn't part of it
abbrev pub without_cr : List ℕ → List ℕ
without_cr piece = if slice_index piece (length piece - 1) == 13 then take (length piece - 1) piece else piece

-- the lines of the bytes: the pieces between the LFs, each without one CR at its end
abbrev pub lines_of : List ℕ → List (List ℕ)
lines_of bytes = map without_cr (pieces_of bytes)

-- a space and a number, in digits without sign and without leading zero
abbrev pub spaced : ℕ → List ℕ
spaced n = 32 ∷ decimal n

-- What is asked for is this step, where the words are those of its call.
abbrev pub AsksFor : {C Q : Type 0} → (List ℕ → Option C) → List ℕ → Parsed Q → Step C Q → Type 0
AsksFor {C = C} words_call words asked.Update asks = (call : C) × (asks ≡ step.Update call) × (words_call words ≡ Some call)
AsksFor words_call words (asked.Ask query) asks = asks ≡ step.Ask query
AsksFor words_call words asked.Unread asks = asks ≡ step.Unread

-- Of an object that says how its steps are written:
module _ {C Q : Type 0} (Reads : List ℕ → Step C Q → Type 0) where
  -- each line is written as its step is
  abbrev pub AreRead : List (List ℕ) → List (Step C Q) → Type 0
  AreRead [] [] = Unit {0}
  AreRead (line ∷ lines) (step ∷ steps) = Reads line step × AreRead lines steps
  AreRead lines steps = ⊥

  -- the steps are those of a source's lines, where it tells its bytes
  abbrev pub AreStepsOf : Option (List ℕ) → List (Step C Q) → Type 0
  AreStepsOf source steps = IfSome source (λ bytes. AreRead (lines_of bytes) steps)

  -- the scripts' steps are those of the sources' lines, where these tell their bytes
  abbrev pub AreScripts : {S : Type 0} → ShownSource S → List S → List (List (Step C Q)) → Type 0
  AreScripts source [] [] = Unit {0}
  AreScripts source (s ∷ sources) (steps ∷ scripts) = AreStepsOf (source.left s) steps × AreScripts source sources scripts
  AreScripts source sources scripts = ⊥
