-- What is printed of results, as bytes.
use Rattle.std.specs.Prelude.{ℕ, ◌+◌, ◌^◌, ◌<◌, List, [], ◌∷◌, ◌++◌, codes, decimal}
use Rattle.std.specs.List.{flat_map, AllByRecursion}
use Rattle.rom_model.specs.declared.call.Updated.{Updated}
use Rattle.rom_model.specs.declared.call.Updated.TheVariants.{Done, Spent, Failed, Doubt}
use Rattle.rom_model.specs.declared.line.LineResult.{LineResult}
use Rattle.rom_model.specs.declared.line.LineResult.TheVariants as outcome

-- What a type's values are printed as.
pub record ShownText (T : Type 0) : Type 1 where
  -- the text
  pub text : T → List ℕ
  -- the numbers are of their types
  pub Fits : T → Type 0

-- how an object's replies and answers are written, and that their numbers are of their types
pub record Texts (R A : Type 0) : Type 1 where
  pub reply : R → List ℕ
  pub answer : A → List ℕ
  pub ReplyFits : R → Type 0
  pub AnswerFits : A → Type 0

-- those of two types that show how they are printed
abbrev pub texts_of : {R A : Type 0} → ShownText R → ShownText A → Texts R A
texts_of reply answer = record { reply = reply.text; answer = answer.text; ReplyFits = reply.Fits; AnswerFits = answer.Fits }

-- each line ends with LF
abbrev pub line_text : List ℕ → List ℕ
line_text text = text ++ 10 ∷ []

-- an update that was done shows its place
abbrev pub update_text : {R : Type 0} → (R → List ℕ) → Updated R → List ℕ
update_text reply_text (Done reply place) = reply_text reply ++ codes " @" ++ decimal place
update_text reply_text Spent = codes "spent"
update_text reply_text Failed = codes "fault"
update_text reply_text Doubt = codes "doubt"

-- an answer shows its front
abbrev pub read_text : {A : Type 0} → (A → List ℕ) → A → ℕ → List ℕ
read_text answer_text answer front = answer_text answer ++ codes " #" ++ decimal front

-- the numbers of what an update was told are of their types
abbrev pub UpdateFits : {R : Type 0} → (R → Type 0) → Updated R → Type 0
UpdateFits ReplyFits (Done reply place) = ReplyFits reply × (place < 2 ^ 64)
UpdateFits ReplyFits other = Unit {0}

module _ {R A : Type 0} (texts : Texts R A) where
  -- the text of what a line was told, without the LF
  abbrev pub result_text : LineResult R A → List ℕ
  result_text outcome.Unread = codes "unread"
  result_text (outcome.Update updated) = update_text texts.reply updated
  result_text (outcome.Read answer front) = read_text texts.answer answer front

  -- the lines of one caller's results
  abbrev pub results_text : List (LineResult R A) → List ℕ
  results_text results = flat_map (λ result. line_text (result_text result)) results

  -- the callers' results, numbered from this caller on
  abbrev pub callers_text : ℕ → List (List (LineResult R A)) → List ℕ
  callers_text caller [] = []
  callers_text caller (results ∷ more) =
      line_text (codes "caller " ++ decimal caller) ++ results_text results ++ callers_text (caller + 1) more

  -- the text of a run: the results of its callers, and the count at closing
  abbrev pub text : List (List (LineResult R A)) → ℕ → List ℕ
  text results count = callers_text 1 results ++ line_text (codes "count " ++ decimal count)

  -- the numbers of a result are of their types
  abbrev pub ResultFits : LineResult R A → Type 0
  ResultFits outcome.Unread = Unit {0}
  ResultFits (outcome.Update updated) = UpdateFits texts.ReplyFits updated
  ResultFits (outcome.Read answer front) = texts.AnswerFits answer × (front < 2 ^ 64)

  -- the numbers of all results are of their types
  abbrev pub AreOfType : List (List (LineResult R A)) → Type 0
  AreOfType results = AllByRecursion (λ rs. AllByRecursion ResultFits rs) results
