-- What the lines of a script ask for, where its words grow at their end.
use Rattle.std.proofs.Common.{◌≡◌, ℕ, suc, ◌+◌, ◌*◌, ◌≤◌, List, [], ◌∷◌, ◌++◌, length, get_or, refl, ap, ◌∙◌, arith}
use Rattle.std.specs.Prelude.{Option, Some, None, IsSome, All, map, slice_get}
use Rattle.std.proofs.lemmas.List.{length-append, map-append}
use Rattle.std.proofs.lemmas.List.Elements.{All-push}
use Rattle.rom_model.specs.declared.line.Step.{Step}
use Rattle.rom_model.specs.declared.line.Step.TheVariants as step
use Rattle.rom_model.specs.declared.words.TheConstants.{CALL_WORDS}
use Rattle.rom_lines.specs.Runs.{run_of, IsRun}
use Rattle.rom_lines.specs.Steps.{step_of_call, step_of_cell, StepCellFits, IsLine, IsLineAt, need, needs, total_words}
use Rattle.rom_lines.specs.declared.script.Cell.{Cell}
use Rattle.rom_lines.specs.declared.script.Cell.TheVariants as cell
use Rattle.rom_lines.specs.declared.script.Line.{Line}
use Rattle.rom_lines.proofs.Runs.{run_stays, run_behind, length_run, is_run_stays, is_run_behind, at_before, at_left, same_images}

module _ {C Q : Type 0} (words_call : List ℕ → Option C) where
  step_stays : (words more : List ℕ) (c : Cell Q) → StepCellFits words_call words c → step_of_cell words_call (words ++ more) c ≡ step_of_cell words_call words c
  step_stays words more (cell.Update from many) h = ap (λ w. step_of_call {Q = Q} words_call (words_call w)) (run_stays words more from many h.within)
  step_stays words more (cell.Ask query) h = refl
  step_stays words more cell.Unread h = refl

  fits_stays : (words more : List ℕ) (c : Cell Q) → StepCellFits words_call words c → StepCellFits words_call (words ++ more) c
  fits_stays words more (cell.Update from many) h = is_run_stays words_call CALL_WORDS words more from many h
  fits_stays words more (cell.Ask query) h = tt
  fits_stays words more cell.Unread h = tt

  -- each line asks for what it asked for before
  pub steps_stay : (words more : List ℕ) (cells : List (Cell Q)) → All (StepCellFits words_call words) cells → map (step_of_cell words_call (words ++ more)) cells ≡ map (step_of_cell words_call words) cells
  steps_stay words more cells h = same_images (step_of_cell words_call (words ++ more)) (step_of_cell words_call words) cells (λ k d lt. step_stays words more (get_or cells k d) (h k d lt))

  pub fit_all : (words more : List ℕ) (cells : List (Cell Q)) → All (StepCellFits words_call words) cells → All (StepCellFits words_call (words ++ more)) cells
  fit_all words more cells h = λ k d lt. fits_stays words more (get_or cells k d) (h k d lt)

  -- a line that asks for the call of the words that come behind
  pub fit_behind : (words more : List ℕ) (cells : List (Cell Q)) → All (StepCellFits words_call words) cells → length more ≤ CALL_WORDS → IsSome (words_call more) → All (StepCellFits words_call (words ++ more)) (cells ++ cell.Update (length words) (length more) ∷ [])
  fit_behind words more cells h few some = All-push (StepCellFits words_call (words ++ more)) cells (cell.Update (length words) (length more)) (fit_all words more cells h) (is_run_behind words_call CALL_WORDS words more few some)

  pub steps_behind : (words more : List ℕ) (cells : List (Cell Q)) (call : C) → All (StepCellFits words_call words) cells → words_call more ≡ Some call → map (step_of_cell words_call (words ++ more)) (cells ++ cell.Update (length words) (length more) ∷ []) ≡ map (step_of_cell words_call words) cells ++ step.Update call ∷ []
  steps_behind words more cells call h e =
      map-append (step_of_cell words_call (words ++ more)) cells (cell.Update (length words) (length more) ∷ [])
      ∙ ap (λ l. l ++ step_of_cell words_call (words ++ more) (cell.Update (length words) (length more)) ∷ []) (steps_stay words more cells h)
      ∙ ap (λ s. map (step_of_cell words_call words) cells ++ s ∷ []) (ap (λ w. step_of_call {Q = Q} words_call (words_call w)) (run_behind words more) ∙ ap (step_of_call words_call) e)

  -- what a line asks for, whose words are a call's
  asked_some : (o : Option C) → IsSome o → (call : C) × (step_of_call {Q = Q} words_call o ≡ step.Update call) × (o ≡ Some call)
  asked_some (Some call) h = (call, refl, refl)
  asked_some None h = absurd (cc h)

  pub update_line : (words : List ℕ) (from many : ℕ) (told : List ℕ) → told ≡ run_of words from many → IsRun words_call CALL_WORDS words from many → (call : C) × (step_of_call {Q = Q} words_call (words_call (run_of words from many)) ≡ step.Update call) × (words_call told ≡ Some call) × (length told ≤ CALL_WORDS)
  update_line words from many told e h =
      let found = asked_some (words_call (run_of words from many)) h.read_as in
      (found.0, found.1, ap words_call e ∙ found.2, omega (arith, h.few, ap length e, length_run words from many h.within))

  pub line_at : (items : List (Step C Q)) (i : ℕ) (asks : Step C Q) (told : Line Q) → slice_get items i ≡ Some asks → IsLine words_call asks told → IsLineAt words_call items i told
  line_at items i asks told e h = record {
    asks = asks;
    line = h;
    at = e;
    before = at_before items i asks e;
    left = at_left items i asks e;
  }

pub total_words-push : {Q : Type 0} (cells : List (Cell Q)) (c : Cell Q) → total_words (cells ++ c ∷ []) ≡ total_words cells + total_words (c ∷ [])
total_words-push [] c = omega arith
total_words-push (cell.Update from many ∷ more) c = omega (arith, total_words-push more c)
total_words-push (cell.Ask query ∷ more) c = total_words-push more c
total_words-push (cell.Unread ∷ more) c = total_words-push more c

-- a line whose words come behind makes as many words
pub own_words : {C Q : Type 0} (words_call : List ℕ → Option C) (words more : List ℕ) (cells : List (Cell Q)) → All (StepCellFits words_call words) cells × (total_words cells ≤ length words) → length more ≤ CALL_WORDS → IsSome (words_call more) → All (StepCellFits words_call (words ++ more)) (cells ++ cell.Update (length words) (length more) ∷ []) × (total_words (cells ++ cell.Update (length words) (length more) ∷ []) ≤ length (words ++ more))
own_words words_call words more cells h few some = (fit_behind words_call words more cells h.0 few some, omega (arith, h.1, length-append words more, total_words-push cells (cell.Update (length words) (length more))))

-- a line that is no update makes no words
pub no_words : {C Q : Type 0} (words_call : List ℕ → Option C) (words : List ℕ) (cells : List (Cell Q)) (c : Cell Q) → All (StepCellFits words_call words) cells × (total_words cells ≤ length words) → StepCellFits words_call words c → total_words (c ∷ []) ≡ 0 → All (StepCellFits words_call words) (cells ++ c ∷ []) × (total_words (cells ++ c ∷ []) ≤ length words)
no_words words_call words cells c h fits none = (All-push (StepCellFits words_call words) cells c h.0 fits, omega (arith, h.1, none, total_words-push cells c))

-- what a reply needs, whose call has these words
module _ {C : Type 0} (Q : Type 0) (words_call : List ℕ → Option C) (call_words : C → List ℕ) (only : (words : List ℕ) (call : C) → words_call words ≡ Some call → call_words call ≡ words) where
  asked_needs : (words : List ℕ) (o : Option C) → words_call words ≡ o → need call_words (step_of_call {Q = Q} words_call o) ≤ 2 * length words
  asked_needs words (Some call) e = omega (arith, ap length (only words call e))
  asked_needs words None e = omega arith

  -- Room for twice the words of the calls is room for all replies.
  pub room_enough : (words : List ℕ) (cells : List (Cell Q)) → All (StepCellFits words_call words) cells → needs call_words (map (step_of_cell words_call words) cells) ≤ 2 * total_words cells
  room_enough words [] h = omega arith
  room_enough words (cell.Update from many ∷ more) h =
      let first : StepCellFits {Q = Q} words_call words (cell.Update from many) = h 0 (cell.Update from many) (omega arith) in
      omega (arith, room_enough words more (λ k d lt. h (suc k) d (omega arith)), asked_needs (run_of words from many) (words_call (run_of words from many)) refl, length_run words from many first.within)
  room_enough words (cell.Ask query ∷ more) h = omega (arith, room_enough words more (λ k d lt. h (suc k) d (omega arith)))
  room_enough words (cell.Unread ∷ more) h = omega (arith, room_enough words more (λ k d lt. h (suc k) d (omega arith)))
