-- One line that a caller takes, whose result stands nowhere yet.
use Rattle.std.specs.Prelude.{◌≡◌, ◌⊎◌, ℕ, ◌+◌, ◌<◌, ◌≤◌, List, [], ◌∷◌, ◌++◌, length, Option}
use Rattle.atomic_table.specs.Seated.{TableId}
use Rattle.rom_model.specs.Machine.{Machine, on_words}
use Rattle.rom_model.specs.Seen.{StartsWith}
use Rattle.rom_model.specs.declared.call.Updated.TheVariants.{Done}
use Rattle.rom_model.specs.declared.kept.Kept.{Kept}
use Rattle.rom_model.specs.declared.line.Step.{Step}
use Rattle.rom_model.specs.declared.line.LineResult.{LineResult}
use Rattle.rom_model.specs.declared.line.LineResult.TheVariants as outcome
use Rattle.rom_lines.specs.Replies.{HasReplyWords, updated_as}
use Rattle.rom_lines.specs.Steps.{need}
use Rattle.rom_rule.specs.declared.views.Base.{Base}
use Rattle.rom_store.specs.Callers.{Caller, IsCallerOf, IsDatedBy}
use Rattle.rom_store.specs.Closing.{kept_in}
use Rattle.rom_store.specs.Working.{HasDoneLines}
use Rattle.rom_store.specs.declared.work.Taken.{Taken}
use Rattle.rom_store.specs.declared.work.Taken.TheVariants as taken

module _ {R A : Type 0} (words_reply : List ℕ → Option R) where
  -- what a line was told, whose reply is read from these words where it is an update that was done
  abbrev pub result_taken : Taken A → List ℕ → LineResult R A
  result_taken taken.Unread words = outcome.Unread
  result_taken (taken.Update became) words = outcome.Update (updated_as words_reply became words)
  result_taken (taken.Read answer front) words = outcome.Read answer front

  -- These are the words of a reply, where the line is an update that was done.
  abbrev pub HasTakenWords : Taken A → List ℕ → Type 0
  HasTakenWords taken.Unread words = Unit {0}
  HasTakenWords (taken.Update became) words = HasReplyWords words_reply became words
  HasTakenWords (taken.Read answer front) words = Unit {0}

  -- so many words stand for the reply
  abbrev pub words_taken : Taken A → List ℕ → ℕ
  words_taken taken.Unread words = 0
  words_taken (taken.Update became) words = length words
  words_taken (taken.Read answer front) words = 0

-- Of a heap that held so many updates at its opening, a caller that keeps this has seen what it was told here: the update at its place, and all before a front.
abbrev pub IsSeen : {R A : Type 0} → ℕ → Kept → LineResult R A → Type 0
IsSeen k v outcome.Unread = Unit {0}
IsSeen k v (outcome.Update (Done reply place)) = place < k + length v.seen
IsSeen k v (outcome.Update undone) = Unit {0}
IsSeen k v (outcome.Read answer front) = front ≤ k + length v.seen

module _ {S C Q R A : Type 0} (m : Machine S C Q R A) (Contents : ℕ → List ℕ → S → ℕ → Type 0) (base : Base) where
  -- A caller has taken one line, which asks for this, and was told so, with these words of the reply.
  pub record HasTakenOne (table : TableId) (asks : Step C Q) (told : Taken A) (words : List ℕ) (was pass : Caller) : Type 0 where
    pub of : IsCallerOf Contents table base pass
    pub number : pass.view.number ≡ was.view.number
    -- the words are a reply's, where it is an update that was done, and so many at most that room for them can be reserved before
    pub replied : HasTakenWords m.words_reply told words
    pub few : words_taken m.words_reply told words ≤ need m.call_words asks
    -- it has been told of one call more at most
    pub calls : length (kept_in pass).told ≤ length (kept_in was).told + 1
    -- what it has now seen begins with all that it had seen, and what it was told here is among it
    pub later : StartsWith (kept_in pass).seen (kept_in was).seen
    pub seen : (s : S) (k : ℕ) → Contents base.order base.image s k → IsSeen k (kept_in pass) (result_taken m.words_reply told words)
    -- it knows the moments at which what it has now seen was committed, and those that it knew stay as they were; only where no call was made all stays as it was
    pub dated : IsDatedBy Contents (on_words m) base was.view pass.view ⊎ (pass ≡ was)
    -- whatever lines it had taken, it has taken this one behind them
    pub done : (lines : List (Step C Q)) (results : List (LineResult R A)) → HasDoneLines m Contents base was lines results →
        HasDoneLines m Contents base pass (lines ++ asks ∷ []) (results ++ result_taken m.words_reply told words ∷ [])
