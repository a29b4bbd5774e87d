-- The printed lines determine the results, whatever object they are of.
use Rattle.std.specs.Prelude.{◌≡◌, ℕ, ◌+◌, ◌^◌, ◌<◌, Bool, true, false, not, cond, nat_lt, if◌then◌else◌, List, [], ◌∷◌, ◌++◌, codes, decimal}
use Rattle.std.proofs.Common.{refl, sym, ap, ◌∙◌}
use Rattle.std.specs.List.{AllByRecursion}
use Rattle.std.specs.Str.{bytes_eq}
use Rattle.std.proofs.lemmas.List.{append_assoc, append-nil}
use Rattle.rom_model.specs.declared.call.Updated.TheVariants.{Done, Spent, Failed, Doubt}
use Rattle.rom_model.specs.declared.line.LineResult.{LineResult}
use Rattle.rom_model.specs.declared.line.LineResult.TheVariants as outcome
use Rattle.rom_text.specs.Text.{Texts, result_text, line_text, results_text, callers_text, ResultFits, AreOfType}
use Rattle.rom_text.specs.Determines.{TextDetermines}
use Rattle.rom_text.proofs.Reading.{is_word, AllAreWords, words_of, with_spaces, both, line_read, decimal_is_a_word, decimal_read, wide}
use Rattle.rom_text.proofs.Naming.{IsNamed, Reads, begins, is_head, mark_is_a_word, number_of, placed, placed_by, result_of, spaces_more, words_more}

-- the results of a caller whose line is still to come, those of the callers behind it, and the count
abbrev ReadSoFar : Type 0 → Type 0 → Type 0
ReadSoFar R A = List (LineResult R A) × List (List (LineResult R A)) × ℕ

-- a result before those that were read
abbrev with_result : {R A : Type 0} → LineResult R A → ReadSoFar R A → ReadSoFar R A
with_result result read = (result ∷ read.0, read.1, read.2)

-- where the opposite of a test holds, the test fails
no_head : (h : Bool) → not h ≡ true → h ≡ false
no_head true is = sym is
no_head false is = refl

-- four texts, one after another
grouped : (a b c d : List ℕ) → a ++ b ++ c ++ d ≡ a ++ (b ++ (c ++ d))
grouped a b c d = simp append_assoc refl

-- a line before those that were read
abbrev with_line : {R A : Type 0} → Reads R → Reads A → List (List ℕ) → ReadSoFar R A → ReadSoFar R A
with_line reply_of answer_of [] read = read
with_line reply_of answer_of (w ∷ ws) read =
    if is_head w then (if bytes_eq w (codes "caller") then ([], read.0 ∷ read.1, read.2) else ([], [], number_of ws))
    else with_result (result_of reply_of answer_of w ws) read

-- the lines, from the last one back to the first
abbrev with_lines : {R A : Type 0} → Reads R → Reads A → List (List (List ℕ)) → ReadSoFar R A
with_lines reply_of answer_of [] = ([], [], 0)
with_lines reply_of answer_of (ws ∷ lines) = with_line reply_of answer_of ws (with_lines reply_of answer_of lines)

module _ {R A : Type 0} (texts : Texts R A) (reply_of : Reads R) (answer_of : Reads A)
    (replies : (r : R) → texts.ReplyFits r → IsNamed reply_of (texts.reply r) r)
    (answers : (a : A) → texts.AnswerFits a → IsNamed answer_of (texts.answer a) a) where
  -- what a text says
  abbrev read : List ℕ → ReadSoFar R A
  read bytes = with_lines reply_of answer_of (words_of bytes)

  -- a result's line is read as the result that its words name
  result_line : (w : List ℕ) (ws : List (List ℕ)) (rest : List ℕ) → begins w ≡ true → AllAreWords ws →
      read (line_text (with_spaces w ws) ++ rest) ≡ with_result (result_of reply_of answer_of w ws) (read rest)
  result_line w ws rest begun words =
      let parts = both (is_word w) (not (is_head w)) begun in
      ap (with_lines reply_of answer_of) (line_read w ws rest parts.0 words)
      ∙ ap (λ t. cond t (if bytes_eq w (codes "caller") then ([], (read rest).0 ∷ (read rest).1, (read rest).2) else ([], [], number_of ws)) (with_result (result_of reply_of answer_of w ws) (read rest))) (no_head (is_head w) parts.1)

  -- words before a mark and its number
  marked_line : (text w : List ℕ) (ws : List (List ℕ)) (mark n : ℕ) (rest : List ℕ) → text ≡ with_spaces w ws → begins w ≡ true → AllAreWords ws → nat_lt 32 mark ≡ true →
      read (line_text (text ++ 32 ∷ mark ∷ decimal n) ++ rest) ≡ with_result (placed reply_of answer_of w ws (mark ∷ decimal n)) (read rest)
  marked_line text w ws mark n rest is begun words marked =
      ap (λ t. read (line_text t ++ rest)) (ap (λ t. t ++ 32 ∷ mark ∷ decimal n) is ∙ spaces_more w ws (mark ∷ decimal n))
      ∙ result_line w (ws ++ (mark ∷ decimal n) ∷ []) rest begun (words_more ws (mark ∷ decimal n) words (mark_is_a_word mark n marked))
      ∙ ap (λ r. with_result r (read rest)) (placed_by reply_of answer_of w ws (mark ∷ decimal n))

  -- a result's line is read as the result
  result_read : (r : LineResult R A) (rest : List ℕ) → ResultFits texts r → read (line_text (result_text texts r) ++ rest) ≡ with_result r (read rest)
  result_read outcome.Unread rest fits = result_line (codes "unread") [] rest refl tt
  result_read (outcome.Update (Done r n)) rest fits =
      let said = replies r fits.0 in
      ap (λ t. read (line_text t ++ rest)) (append_assoc (texts.reply r) (codes " @") (decimal n))
      ∙ marked_line (texts.reply r) said.first said.others 64 n rest said.is said.begun said.words refl
      ∙ (λ i. with_result (outcome.Update (Done (said.names i) (decimal_read n (wide n fits.1) i))) (read rest))
  result_read (outcome.Update Spent) rest fits = result_line (codes "spent") [] rest refl tt
  result_read (outcome.Update Failed) rest fits = result_line (codes "fault") [] rest refl tt
  result_read (outcome.Update Doubt) rest fits = result_line (codes "doubt") [] rest refl tt
  result_read (outcome.Read a n) rest fits =
      let said = answers a fits.0 in
      ap (λ t. read (line_text t ++ rest)) (append_assoc (texts.answer a) (codes " #") (decimal n))
      ∙ marked_line (texts.answer a) said.first said.others 35 n rest said.is said.begun said.words refl
      ∙ (λ i. with_result (outcome.Read (said.names i) (decimal_read n (wide n fits.1) i)) (read rest))

  -- the lines of results are read as them, before those that were read
  results_read : (rs : List (LineResult R A)) (rest : List ℕ) (more : List (List (LineResult R A))) (n : ℕ) → AllByRecursion (ResultFits texts) rs →
      read rest ≡ ([], more, n) → read (results_text texts rs ++ rest) ≡ (rs, more, n)
  results_read [] rest more n fit is = is
  results_read (r ∷ rs) rest more n fit is =
      ap read (append_assoc (line_text (result_text texts r)) (results_text texts rs) rest) ∙ result_read r (results_text texts rs ++ rest) fit.0 ∙ ap (with_result r) (results_read rs rest more n fit.1 is)

  -- a whole text is read as its results and its count
  text_read : (caller : ℕ) (rs : List (List (LineResult R A))) (n : ℕ) → AreOfType texts rs → n < 2 ^ 64 →
      read (callers_text texts caller rs ++ line_text (codes "count " ++ decimal n)) ≡ ([], rs, n)
  text_read caller [] n fit lt =
      ap read (sym (append-nil (line_text (codes "count " ++ decimal n))))
      ∙ ap (with_lines reply_of answer_of) (line_read (codes "count") (decimal n ∷ []) [] refl (decimal_is_a_word n, tt))
      ∙ ap (λ m. ([], [], m)) (decimal_read n (wide n lt))
  text_read caller (rs ∷ more) n fit lt =
      let rest : List ℕ = callers_text texts (caller + 1) more ++ line_text (codes "count " ++ decimal n) in
      ap read (grouped (line_text (codes "caller " ++ decimal caller)) (results_text texts rs) (callers_text texts (caller + 1) more) (line_text (codes "count " ++ decimal n)))
      ∙ ap (with_lines reply_of answer_of) (line_read (codes "caller") (decimal caller ∷ []) (results_text texts rs ++ rest) refl (decimal_is_a_word caller, tt))
      ∙ ap (with_line reply_of answer_of (codes "caller" ∷ decimal caller ∷ [])) (results_read rs rest more n fit.0 (text_read (caller + 1) more n fit.1 lt))

  -- where each reply and each answer is words that are read as it, two runs with the same text have the same results and the same count
  pub text_determines : TextDetermines texts
  text_determines rs qs m n fit_r fit_q lt_m lt_n same =
      let all = sym (text_read 1 rs m fit_r lt_m) ∙ ap read same ∙ text_read 1 qs n fit_q lt_n in
      (ap (λ r. r.1) all, ap (λ r. r.2) all)
