-- What a primary writes of a session: the frames of its history.
use Rattle.std.specs.Prelude.{◌≡◌, ℕ, ◌+◌, List, [], ◌∷◌}
use Rattle.rom_model.specs.Codes.{call_words, reply_words}
use Rattle.rom_model.specs.State.{State}
use Rattle.rom_model.specs.Story.{Story}
use Rattle.rom_model.specs.declared.call.Answer.{Answer}
use Rattle.rom_model.specs.declared.call.Reply.{Reply}
use Rattle.rom_model.specs.declared.entry.Entry.{Entry}
use Rattle.rom_model.specs.declared.line.LineResult.{LineResult}
use Rattle.rom_frame.specs.Frames.{IsOfWords, frames}
use Rattle.rom_frame.specs.declared.frame.Frame.{Frame}
use Rattle.rom_text.specs.Streams.{ShownSink}
use Rattle.rom_run.specs.Played.{IsOutput, ShownOutput}

-- The entry has the words of a call and of a reply that a program can have, and its place is a 64-bit word.
pub record IsFramed (place : ℕ) (e : Entry) : Type 0 where
  pub frame : Frame
  pub place_is : frame.place ≡ place
  pub args : call_words frame.call ≡ e.args
  pub reply : reply_words frame.reply ≡ e.reply
  pub of_words : IsOfWords frame

-- so each of these entries, the first of which is at that place
abbrev pub AreFramed : ℕ → List Entry → Type 0
AreFramed place [] = Unit {0}
AreFramed place (e ∷ es) = IsFramed place e × AreFramed (place + 1) es

-- The bytes are the frames of the session's history in order, from its opening count on, and no others.
-- `Fits` says that each entry has the words of a call and a reply, in 64 bits: a follower must know it to
-- read the frames back.
abbrev pub frames_output : ShownOutput Reply Answer
frames_output = record { text = λ opening history results. frames opening history; Fits = λ opening history results. AreFramed opening history }

-- All of them are written, and the status is that of the results; or some of them from their front, where the sink failed.
abbrev pub AreShipped : {K : Type 0} → ShownSink K → Story State → List (List (LineResult Reply Answer)) → K → K → ℕ → Type 0
AreShipped sink story results old new status = IsOutput sink frames_output story results old new status
