-- What the lines of a script ask for, by the words that stand for them.
use Rattle.std.specs.Prelude.{◌≡◌, ℕ, ◌+◌, ◌*◌, ◌≤◌, List, ◌∷◌, ◌++◌, [], length, take, drop, Option, Some, None, slice_get}
use Rattle.rom_model.specs.declared.line.Step.{Step}
use Rattle.rom_model.specs.declared.line.Step.TheVariants as step
use Rattle.rom_model.specs.declared.words.TheConstants.{CALL_WORDS}
use Rattle.rom_lines.specs.Runs.{run_of, IsRun}
use Rattle.rom_lines.specs.declared.script.Cell.{Cell}
use Rattle.rom_lines.specs.declared.script.Cell.TheVariants as cell
use Rattle.rom_lines.specs.declared.script.Line.{Line}
use Rattle.rom_lines.specs.declared.script.Line.TheVariants as line

-- what a contract sees of a script
pub record Items (T : Type 0) : Type 0 where
  -- what each line asks for, in order
  pub items : List T

module _ {C Q : Type 0} (call_words : C → List ℕ) where
  -- how many words the reply to a line has at most: twice those of its call
  abbrev pub need : Step C Q → ℕ
  need (step.Update call) = 2 * length (call_words call)
  need (step.Ask query) = 0
  need step.Unread = 0

  -- how many words the replies to all of these lines have at most, together
  abbrev pub needs : List (Step C Q) → ℕ
  needs [] = 0
  needs (asks ∷ more) = need asks + needs more

-- how many words the calls of all of these lines have, together
abbrev pub total_words : {Q : Type 0} → List (Cell Q) → ℕ
total_words [] = 0
total_words (cell.Update from many ∷ more) = many + total_words more
total_words (cell.Ask query ∷ more) = total_words more
total_words (cell.Unread ∷ more) = total_words more

module _ {C Q : Type 0} (words_call : List ℕ → Option C) where
  -- what words ask for, which are those of a call
  abbrev pub step_of_call : Option C → Step C Q
  step_of_call (Some call) = step.Update call
  step_of_call None = step.Unread

  -- what a line asks for, by the words of the script
  abbrev pub step_of_cell : List ℕ → Cell Q → Step C Q
  step_of_cell words (cell.Update from many) = step_of_call (words_call (run_of words from many))
  step_of_cell words (cell.Ask query) = step.Ask query
  step_of_cell words cell.Unread = step.Unread

  -- the words of a line stand within those of the script, and are a call's
  abbrev pub StepCellFits : List ℕ → Cell Q → Type 0
  StepCellFits words (cell.Update from many) = IsRun words_call CALL_WORDS words from many
  StepCellFits words (cell.Ask query) = Unit {0}
  StepCellFits words cell.Unread = Unit {0}

  -- A line says what is asked for: a call by its words, of which an `Args` has room for all.
  abbrev pub IsLine : Step C Q → Line Q → Type 0
  IsLine asks (line.Update words) = (call : C) × (asks ≡ step.Update call) × (words_call words.now ≡ Some call) × (length words.now ≤ CALL_WORDS)
  IsLine asks (line.Ask query) = asks ≡ step.Ask query
  IsLine asks line.Unread = asks ≡ step.Unread

  -- The line at an index says what the script asks for there: this stands after the lines before it, and before the lines that are left.
  pub record IsLineAt (items : List (Step C Q)) (i : ℕ) (told : Line Q) : Type 0 where
    pub asks : Step C Q
    pub line : IsLine asks told
    pub at : slice_get items i ≡ Some asks
    pub before : take (i + 1) items ≡ take i items ++ asks ∷ []
    pub left : drop i items ≡ asks ∷ drop (i + 1) items
