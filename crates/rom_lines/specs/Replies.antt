-- What became of lines, by the words that stand for replies.
use Rattle.std.specs.Prelude.{◌≡◌, ℕ, ◌+◌, ◌<◌, ◌≤◌, List, ◌∷◌, ◌++◌, [], length, take, drop, Option, Some, None, IsSome, slice_get}
use Rattle.rom_model.specs.declared.line.Step.{Step}
use Rattle.rom_model.specs.declared.line.LineResult.{LineResult}
use Rattle.rom_model.specs.declared.line.LineResult.TheVariants as result
use Rattle.rom_model.specs.declared.call.Updated.{Updated}
use Rattle.rom_model.specs.declared.call.Updated.TheVariants as updated
use Rattle.rom_model.specs.declared.words.TheConstants.{REPLY_WORDS}
use Rattle.rom_lines.specs.Runs.{run_of, IsRun}
use Rattle.rom_lines.specs.Steps.{needs}
use Rattle.rom_lines.specs.declared.results.Became.{Became}
use Rattle.rom_lines.specs.declared.results.Became.TheVariants as became
use Rattle.rom_lines.specs.declared.results.Cell.{Cell}
use Rattle.rom_lines.specs.declared.results.Cell.TheVariants as cell
use Rattle.rom_lines.specs.declared.results.Told.{Told}
use Rattle.rom_lines.specs.declared.results.Told.TheVariants as told
use Rattle.rom_lines.specs.declared.results.Undone.{Undone}
use Rattle.rom_lines.specs.declared.results.Undone.TheVariants as undone

-- what a contract sees of results
pub record Reserved (T : Type 0) : Type 0 where
  -- what became of each line so far, in order
  pub items : List T
  -- how many more results there is room for, and how many more words of replies
  pub lines : ℕ
  pub words : ℕ

-- There is room for a result of each of these lines.
pub record HasRoomFor {C Q T : Type 0} (call_words : C → List ℕ) (asks : List (Step C Q)) (kept : Reserved T) : Type 0 where
  pub lines : length asks ≤ kept.lines
  pub words : needs call_words asks ≤ kept.words

-- One result has come. It took the room of one, and for its words no more than so much.
pub record TookRoom {T : Type 0} (old new : Reserved T) (used : ℕ) : Type 0 where
  pub lines : old.lines ≤ new.lines + 1
  pub words : old.words ≤ new.words + used

-- what became of an update that was not done
abbrev pub undone_as : {R : Type 0} → Undone → Updated R
undone_as undone.Spent = updated.Spent
undone_as undone.Failed = updated.Failed
undone_as undone.Doubt = updated.Doubt

-- what became of an update that was done at a place, where its reply is read from words
abbrev pub done_as : {R : Type 0} → ℕ → Option R → Updated R
done_as place (Some reply) = updated.Done reply place
done_as place None = updated.Spent

-- what became of an update, whose reply is read from these words where it was done
abbrev pub updated_as : {R : Type 0} → (List ℕ → Option R) → Became → List ℕ → Updated R
updated_as words_reply (became.Done place) words = done_as place (words_reply words)
updated_as words_reply (became.Undone why) words = undone_as why

-- These are the words of a reply, where the update was done.
abbrev pub HasReplyWords : {R : Type 0} → (List ℕ → Option R) → Became → List ℕ → Type 0
HasReplyWords words_reply (became.Done place) words = IsSome (words_reply words)
HasReplyWords words_reply (became.Undone why) words = Unit {0}

module _ {R A : Type 0} (words_reply : List ℕ → Option R) where
  -- what became of an update at a place, where its reply is read from words
  abbrev pub done_with : ℕ → Option R → LineResult R A
  done_with place (Some reply) = result.Update (updated.Done reply place)
  done_with place None = result.Unread

  -- what became of a query at a front, where its answer is found
  abbrev pub read_with : ℕ → Option A → LineResult R A
  read_with front (Some answer) = result.Read answer front
  read_with front None = result.Unread

  -- what became of a line, by the words of the results and their answers
  abbrev pub result_of : List ℕ → List A → Cell → LineResult R A
  result_of words answers cell.Unread = result.Unread
  result_of words answers (cell.Done place from many) = done_with place (words_reply (run_of words from many))
  result_of words answers (cell.Undone why) = result.Update (undone_as why)
  result_of words answers (cell.Read front at) = read_with front (slice_get answers at)

  -- The words of a reply stand within those of the results, and are a reply's. An answer stands among the answers.
  abbrev pub ReplyCellFits : List ℕ → List A → Cell → Type 0
  ReplyCellFits words answers cell.Unread = Unit {0}
  ReplyCellFits words answers (cell.Done place from many) = IsRun words_reply REPLY_WORDS words from many
  ReplyCellFits words answers (cell.Undone why) = Unit {0}
  ReplyCellFits words answers (cell.Read front at) = at < length answers

  -- What is handed out says what became of a line: a reply by its words, of which a `Back` has room for all.
  abbrev pub SaysResult : LineResult R A → Told A → Type 0
  SaysResult it told.Unread = it ≡ result.Unread
  SaysResult it (told.Done words place) = (reply : R) × (it ≡ result.Update (updated.Done reply place)) × (words_reply words.now ≡ Some reply) × (length words.now ≤ REPLY_WORDS)
  SaysResult it (told.Undone why) = it ≡ result.Update (undone_as why)
  SaysResult it (told.Read answer front) = it ≡ result.Read answer.now front

  -- The result at an index says what became of the line there: this stands after the results before it, and before those that are left.
  pub record SaysResultAt (items : List (LineResult R A)) (i : ℕ) (handed : Told A) : Type 0 where
    pub line : LineResult R A
    pub told : SaysResult line handed
    pub at : slice_get items i ≡ Some line
    pub before : take (i + 1) items ≡ take i items ++ line ∷ []
    pub left : drop i items ≡ line ∷ drop (i + 1) items
