-- What became of lines, where the words of the results grow at their end.
use Rattle.std.proofs.Common.{◌≡◌, ℕ, ◌<◌, ◌≤◌, List, [], ◌∷◌, ◌++◌, length, get_or, refl, ap, sym, ◌∙◌, arith, length-append}
use Rattle.std.specs.Prelude.{Option, Some, None, IsSome, All, map, slice_get}
use Rattle.std.proofs.lemmas.List.{get_or_append_left, map-append}
use Rattle.std.proofs.lemmas.Option.{slice_get-get_or}
use Rattle.std.proofs.Math.Seq.{get_or-append_seam}
use Rattle.std.proofs.lemmas.List.Elements.{All-push}
use Rattle.rom_model.specs.declared.line.LineResult.{LineResult}
use Rattle.rom_model.specs.declared.line.LineResult.TheVariants as result
use Rattle.rom_model.specs.declared.call.Updated.TheVariants as updated
use Rattle.rom_model.specs.declared.words.TheConstants.{REPLY_WORDS}
use Rattle.rom_lines.specs.Runs.{run_of, IsRun}
use Rattle.rom_model.specs.declared.line.Step.{Step}
use Rattle.rom_lines.specs.Steps.{need}
use Rattle.rom_lines.specs.Replies.{Reserved, HasRoomFor, TookRoom, done_with, read_with, result_of, ReplyCellFits, SaysResult, SaysResultAt}
use Rattle.rom_lines.specs.declared.results.Cell.{Cell}
use Rattle.rom_lines.specs.declared.results.Cell.TheVariants as cell
use Rattle.rom_lines.specs.declared.results.Told.{Told}
use Rattle.rom_lines.proofs.Runs.{run_stays, run_behind, length_run, is_run_stays, is_run_behind, at_before, at_left, same_images}

module _ {R A : Type 0} (words_reply : List ℕ → Option R) where
  result_stays : (words more : List ℕ) (answers : List A) (c : Cell) → ReplyCellFits words_reply words answers c → result_of words_reply (words ++ more) answers c ≡ result_of words_reply words answers c
  result_stays words more answers cell.Unread h = refl
  result_stays words more answers (cell.Done place from many) h = ap (λ w. done_with {A = A} words_reply place (words_reply w)) (run_stays words more from many h.within)
  result_stays words more answers (cell.Undone why) h = refl
  result_stays words more answers (cell.Read front at) h = refl

  fits_stays : (words more : List ℕ) (answers : List A) (c : Cell) → ReplyCellFits words_reply words answers c → ReplyCellFits words_reply (words ++ more) answers c
  fits_stays words more answers cell.Unread h = tt
  fits_stays words more answers (cell.Done place from many) h = is_run_stays words_reply REPLY_WORDS words more from many h
  fits_stays words more answers (cell.Undone why) h = tt
  fits_stays words more answers (cell.Read front at) h = h

  -- an update with the reply whose words come behind
  pub fit_behind : (words more : List ℕ) (answers : List A) (cells : List Cell) (place : ℕ) → All (ReplyCellFits words_reply words answers) cells → length more ≤ REPLY_WORDS → IsSome (words_reply more) → All (ReplyCellFits words_reply (words ++ more) answers) (cells ++ cell.Done place (length words) (length more) ∷ [])
  fit_behind words more answers cells place h few some =
      All-push (ReplyCellFits words_reply (words ++ more) answers) cells (cell.Done place (length words) (length more))
      (λ k d lt. fits_stays words more answers (get_or cells k d) (h k d lt))
      (is_run_behind words_reply REPLY_WORDS words more few some)

  pub results_behind : (words more : List ℕ) (answers : List A) (cells : List Cell) (place : ℕ) (reply : R) → All (ReplyCellFits words_reply words answers) cells → words_reply more ≡ Some reply → map (result_of words_reply (words ++ more) answers) (cells ++ cell.Done place (length words) (length more) ∷ []) ≡ map (result_of words_reply words answers) cells ++ result.Update (updated.Done reply place) ∷ []
  results_behind words more answers cells place reply h e =
      map-append (result_of words_reply (words ++ more) answers) cells (cell.Done place (length words) (length more) ∷ [])
      ∙ ap (λ l. l ++ result_of words_reply (words ++ more) answers (cell.Done place (length words) (length more)) ∷ []) (same_images (result_of words_reply (words ++ more) answers) (result_of words_reply words answers) cells (λ k d lt. result_stays words more answers (get_or cells k d) (h k d lt)))
      ∙ ap (λ s. map (result_of words_reply words answers) cells ++ s ∷ []) (ap (λ w. done_with {A = A} words_reply place (words_reply w)) (run_behind words more) ∙ ap (done_with words_reply place) e)

  found_stays : (answers : List A) (answer : A) (at : ℕ) → at < length answers → slice_get (answers ++ answer ∷ []) at ≡ slice_get answers at
  found_stays answers answer at lt =
      let longer : at < length (answers ++ answer ∷ []) = omega (arith, lt, length-append answers (answer ∷ [])) in
      slice_get-get_or (answers ++ answer ∷ []) at answer longer ∙ ap Some (get_or_append_left answers (answer ∷ []) answer at lt) ∙ sym (slice_get-get_or answers at answer lt)

  read_stays : (words : List ℕ) (answers : List A) (answer : A) (c : Cell) → ReplyCellFits words_reply words answers c → result_of words_reply words (answers ++ answer ∷ []) c ≡ result_of words_reply words answers c
  read_stays words answers answer cell.Unread h = refl
  read_stays words answers answer (cell.Done place from many) h = refl
  read_stays words answers answer (cell.Undone why) h = refl
  read_stays words answers answer (cell.Read front at) h = ap (read_with words_reply front) (found_stays answers answer at h)

  fits_beside : (words : List ℕ) (answers : List A) (answer : A) (c : Cell) → ReplyCellFits words_reply words answers c → ReplyCellFits words_reply words (answers ++ answer ∷ []) c
  fits_beside words answers answer cell.Unread h = tt
  fits_beside words answers answer (cell.Done place from many) h = h
  fits_beside words answers answer (cell.Undone why) h = tt
  fits_beside words answers answer (cell.Read front at) h = omega (arith, h, length-append answers (answer ∷ []))

  -- a query with the answer that comes behind
  pub fit_read : (words : List ℕ) (answers : List A) (answer : A) (cells : List Cell) (front : ℕ) → All (ReplyCellFits words_reply words answers) cells → All (ReplyCellFits words_reply words (answers ++ answer ∷ [])) (cells ++ cell.Read front (length answers) ∷ [])
  fit_read words answers answer cells front h =
      All-push (ReplyCellFits words_reply words (answers ++ answer ∷ [])) cells (cell.Read front (length answers))
      (λ k d lt. fits_beside words answers answer (get_or cells k d) (h k d lt))
      (omega (arith, length-append answers (answer ∷ [])))

  pub read_behind : (words : List ℕ) (answers : List A) (answer : A) (cells : List Cell) (front : ℕ) → All (ReplyCellFits words_reply words answers) cells → map (result_of words_reply words (answers ++ answer ∷ [])) (cells ++ cell.Read front (length answers) ∷ []) ≡ map (result_of words_reply words answers) cells ++ result.Read answer front ∷ []
  read_behind words answers answer cells front h =
      let longer : length answers < length (answers ++ answer ∷ []) = omega (arith, length-append answers (answer ∷ [])) in
      let there : slice_get (answers ++ answer ∷ []) (length answers) ≡ Some answer = slice_get-get_or (answers ++ answer ∷ []) (length answers) answer longer ∙ ap Some (get_or-append_seam answers answer [] answer) in
      map-append (result_of words_reply words (answers ++ answer ∷ [])) cells (cell.Read front (length answers) ∷ [])
      ∙ ap (λ l. l ++ result_of words_reply words (answers ++ answer ∷ []) (cell.Read front (length answers)) ∷ []) (same_images (result_of words_reply words (answers ++ answer ∷ [])) (result_of words_reply words answers) cells (λ k d lt. read_stays words answers answer (get_or cells k d) (h k d lt)))
      ∙ ap (λ s. map (result_of words_reply words answers) cells ++ s ∷ []) (ap (read_with words_reply front) there)

  -- an update whose words are a reply's
  done_some : (place : ℕ) (o : Option R) → IsSome o → (reply : R) × (done_with {A = A} words_reply place o ≡ result.Update (updated.Done reply place)) × (o ≡ Some reply)
  done_some place (Some reply) h = (reply, refl, refl)
  done_some place None h = absurd (cc h)

  pub done_result : (words : List ℕ) (place from many : ℕ) (told : List ℕ) → told ≡ run_of words from many → IsRun words_reply REPLY_WORDS words from many → (reply : R) × (done_with {A = A} words_reply place (words_reply (run_of words from many)) ≡ result.Update (updated.Done reply place)) × (words_reply told ≡ Some reply) × (length told ≤ REPLY_WORDS)
  done_result words place from many told e h =
      let found = done_some place (words_reply (run_of words from many)) h.read_as in
      (found.0, found.1, ap words_reply e ∙ found.2, omega (arith, h.few, ap length e, length_run words from many h.within))

  -- a query whose answer stands there
  pub read_result : (answers : List A) (front at : ℕ) (answer : A) → at < length answers → answer ≡ get_or answers at answer → read_with words_reply front (slice_get answers at) ≡ result.Read answer front
  read_result answers front at answer lt is = ap (read_with words_reply front) (slice_get-get_or answers at answer lt ∙ ap Some (sym is))

  pub told_at : (items : List (LineResult R A)) (i : ℕ) (one : LineResult R A) (handed : Told A) → slice_get items i ≡ Some one → SaysResult words_reply one handed → SaysResultAt words_reply items i handed
  told_at items i one handed e h = record {
    line = one;
    told = h;
    at = e;
    before = at_before items i one e;
    left = at_left items i one e;
  }

-- room for more lines than these is room for the rest, once the first has its result
pub room_left : {C Q T : Type 0} (call_words : C → List ℕ) (asks : Step C Q) (rest : List (Step C Q)) (old new : Reserved T) (used : ℕ) → HasRoomFor call_words (asks ∷ rest) old → TookRoom old new used → used ≤ need call_words asks → HasRoomFor call_words rest new
room_left call_words asks rest old new used h k few = record {
  lines = omega (arith, h.lines, k.lines);
  words = omega (arith, h.words, k.words, few);
}
