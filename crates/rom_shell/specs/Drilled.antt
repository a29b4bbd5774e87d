-- What a drill prints of its session.
use Rattle.std.specs.Prelude.{◌≡◌, ◌⊎◌, ℕ, List, Option, Some, if◌then◌else◌}
use Rattle.std.specs.List.{list_any, sum_by}
use Rattle.rom_model.specs.declared.call.Query.TheVariants.{Len, Total}
use Rattle.rom_model.specs.declared.call.Call.{Call}
use Rattle.rom_model.specs.declared.call.Call.TheVariants.{Enq}
use Rattle.rom_model.specs.declared.call.Reply.{Reply}
use Rattle.rom_model.specs.declared.call.Reply.TheVariants.{Queued, Head}
use Rattle.rom_model.specs.declared.entry.Entry.{Entry}
use Rattle.rom_model.specs.Codes.{words_call, words_reply}
use Rattle.rom_model.specs.declared.call.Answer.{Answer}
use Rattle.rom_model.specs.declared.kept.Kept.{Kept}
use Rattle.rom_model.specs.declared.line.LineResult.{LineResult}
use Rattle.rom_model.specs.History.{after}
use Rattle.rom_model.specs.Machine.{on_words}
use Rattle.rom_model.specs.State.{State, tell}
use Rattle.rom_model.specs.Story.{Story, count}
use Rattle.rom_model.specs.Trio.{trio}
use Rattle.rom_run.specs.Played.{AreAnswered}
use Rattle.rom_run.specs.Statuses.{is_faulted}
use Rattle.rom_script.specs.Drill.{drill_lines, drill_scripts}
use Rattle.rom_text.specs.Runs.{IsCutShort, IsWhollyWritten}
use Rattle.rom_text.specs.Streams.{ShownSink}

-- the state at closing
abbrev pub closing : Story State → State
closing story = after (on_words trio) story.order story.opening story.opening_count story.history

-- what an update with this call and this reply has put into the queue
abbrev pub put_by : Option Call → Option Reply → ℕ
put_by (Some (Enq v)) (Some Queued) = v
put_by call reply = 0

-- what an update with this reply has taken out of the queue
abbrev pub dequeued_with : Option Reply → ℕ
dequeued_with (Some (Head v)) = v
dequeued_with reply = 0

-- what the update of an entry has put into the queue
abbrev pub put_in : Entry → ℕ
put_in e = put_by (words_call e.args) (words_reply e.reply)

-- what the update of an entry has taken out of the queue
abbrev pub taken_in : Entry → ℕ
taken_in e = dequeued_with (words_reply e.reply)

-- what all of these updates have put into the queue
abbrev pub enqueued_in : List Entry → ℕ
enqueued_in history = sum_by put_in history

-- what all of these updates have taken out of the queue
abbrev pub dequeued_in : List Entry → ℕ
dequeued_in history = sum_by taken_in history

-- the five lines of a drill with this story: all but the first are of its history, of the state after it, and of its count
abbrev pub drill_told : ℕ → ℕ → ℕ → Story State → List ℕ
drill_told start callers calls story = drill_lines start callers calls (enqueued_in story.history) (dequeued_in story.history) (tell (closing story) Len) (tell (closing story) Total) (count story)

-- The status of a drill whose lines are all printed: 7 where the device failed under an update, or else 0. No line of its scripts is unread.
abbrev pub drill_status : {R A : Type 0} → List (List (LineResult R A)) → ℕ
drill_status results = if list_any (λ rs. list_any is_faulted rs) results then 7 else 0

-- The whole text is printed, and the status is that of the results; or some of it, where the sink failed.
abbrev pub IsDrillText : {O : Type 0} → ShownSink O → List ℕ → List (List (LineResult Reply Answer)) → O → O → ℕ → Type 0
IsDrillText sink text results old new status = ((status ≡ drill_status results) × IsWhollyWritten sink old new text) ⊎ ((status ≡ 5) × IsCutShort sink old new text)

-- Results of a drill's scripts are those of one history, which is the story's, and are what its callers keep; and what is told of them is printed.
pub record HaveDrilled {O : Type 0} (sink : ShownSink O) (start callers calls : ℕ) (old new : O) (status : ℕ) (kept : List Kept) (story : Story State) : Type 0 where
  pub results : List (List (LineResult Reply Answer))
  pub answered : AreAnswered trio (drill_scripts start callers calls) results kept story
  pub printed : IsDrillText sink (drill_told start callers calls story) results old new status
