-- What is printed of the results of scripts.
use Rattle.std.specs.Prelude.{◌≡◌, ◌+◌, ◌≤◌, ◌⊎◌, ℕ, List, length}
use Rattle.rom_model.specs.History.{LAST_COUNT}
use Rattle.rom_model.specs.Lawful.{IsLawful}
use Rattle.rom_model.specs.Leaving.{HaveLeft}
use Rattle.rom_model.specs.Machine.{Machine}
use Rattle.rom_model.specs.Story.{Story, count}
use Rattle.rom_model.specs.declared.entry.Entry.{Entry}
use Rattle.rom_model.specs.declared.kept.Kept.{Kept}
use Rattle.rom_model.specs.declared.line.LineResult.{LineResult}
use Rattle.rom_model.specs.declared.line.Step.{Step}
use Rattle.rom_text.specs.Runs.{IsCutShort, IsWhollyWritten}
use Rattle.rom_text.specs.Streams.{ShownSink}
use Rattle.rom_text.specs.Text.{AreOfType, Texts, text}
use Rattle.rom_run.specs.Statuses.{status_of}

-- What a program prints of a session, of which it tells where the count stood at the opening, the history since, and the results of its scripts.
pub record ShownOutput (R A : Type 0) : Type 1 where
  -- its bytes
  pub text : ℕ → List Entry → List (List (LineResult R A)) → List ℕ
  -- the numbers that it tells are of their types
  pub Fits : ℕ → List Entry → List (List (LineResult R A)) → Type 0

-- All of it is printed, and its numbers are of their types, and the status is that of the results; or some of it from its front, where the sink failed.
abbrev pub IsOutput : {S K R A : Type 0} → ShownSink K → ShownOutput R A → Story S → List (List (LineResult R A)) → K → K → ℕ → Type 0
IsOutput sink output story results old new status =
    ((status ≡ status_of results) × output.Fits story.opening_count story.history results × IsWhollyWritten sink old new (output.text story.opening_count story.history results))
    ⊎ ((status ≡ 5) × IsCutShort sink old new (output.text story.opening_count story.history results))

-- the text of a run: the results of each caller, and the count of all updates
abbrev pub text_output : {R A : Type 0} → Texts R A → ShownOutput R A
text_output texts = record { text = λ opening history results. text texts results (opening + length history); Fits = λ opening history results. AreOfType texts results }

-- The text of a run is printed: whole, with its results' status, or with 5 cut short, where the sink failed.
abbrev pub IsText : {S K R A : Type 0} → ShownSink K → Texts R A → Story S → List (List (LineResult R A)) → K → K → ℕ → Type 0
IsText sink texts story results old new status = IsOutput sink (text_output texts) story results old new status

module _ {S C Q R A : Type 0} (machine : Machine S C Q R A) where
  -- The results of these scripts are those of one history, which is the story's; and they are what these callers keep.
  pub record AreAnswered (scripts : List (List (Step C Q))) (results : List (List (LineResult R A))) (callers : List Kept) (story : Story S) : Type 0 where
    pub lawful : IsLawful machine story scripts results
    pub kept : HaveLeft machine story 1 callers scripts results
    pub within : count story ≤ LAST_COUNT

  module _ {K : Type 0} (Prints : Story S → List (List (LineResult R A)) → K → K → ℕ → Type 0) where
    -- And so much is printed of them.
    pub record HavePlayed (scripts : List (List (Step C Q))) (old new : K) (status : ℕ) (callers : List Kept) (story : Story S) : Type 0 where
      pub results : List (List (LineResult R A))
      pub answered : AreAnswered scripts results callers story
      pub printed : Prints story results old new status

  -- What was printed are the results of one history, which is the story's, of the scripts that were run; and they are what these callers keep.
  pub record HasReplies {X K : Type 0} (AreRun : List X → List (List (Step C Q)) → Type 0) (Prints : Story S → List (List (LineResult R A)) → K → K → ℕ → Type 0) (sources : List X) (old new : K) (status : ℕ) (callers : List Kept) (story : Story S) : Type 0 where
    pub scripts : List (List (Step C Q))
    pub results : List (List (LineResult R A))
    pub read : AreRun sources scripts
    pub answered : AreAnswered scripts results callers story
    pub printed : Prints story results old new status
