-- What a command does with a heap, and what it prints.
use Rattle.std.specs.Prelude.{◌≡◌, ℕ, List, [], Option, Some, None}
use Rattle.rom_model.specs.declared.call.Call.{Call}
use Rattle.rom_model.specs.declared.call.Query.{Query}
use Rattle.rom_model.specs.declared.call.Reply.{Reply}
use Rattle.rom_model.specs.declared.call.Answer.{Answer}
use Rattle.rom_model.specs.declared.line.Step.{Step}
use Rattle.rom_model.specs.declared.line.LineResult.{LineResult}
use Rattle.rom_model.specs.State.{State}
use Rattle.rom_model.specs.Story.{Story}
use Rattle.rom_text.specs.Lines.{AreScripts}
use Rattle.rom_run.specs.Played.{IsText}
use Rattle.rom_run.specs.Use.{Use, Plays, Makes, Shows, Upgrades, Read, Drawn}
use Rattle.rom_run.specs.declared.heap.Heap.TheVariants.{New, Standing}
use Rattle.rom_script.specs.Drill.{drill_scripts}
use Rattle.rom_script.specs.Lines.{ReadsTrio}
use Rattle.rom_text.specs.Streams.{ShownSink, ShownSource}
use Rattle.rom_script.specs.Trio.{trio_texts}
use Rattle.rom_shell.specs.Drilled.{IsDrillText, drill_told}
use Rattle.rom_shell.specs.Stat.{IsWrittenOrCutShort, stat_text}
use Rattle.rom_words.specs.Words.{Command, Try, Run, Format, Stat, Upgrade, Drill}

-- the use that it makes of its device's heap
abbrev pub use_of : Option Command → Option Use
use_of (Some (Try scripts)) = Some (Plays (New 4) Read)
use_of (Some (Run file scripts)) = Some (Plays Standing Read)
use_of (Some (Format file order)) = Some (Makes order)
use_of (Some (Stat file)) = Some Shows
use_of (Some (Upgrade file)) = Some Upgrades
use_of (Some (Drill start callers calls)) = Some (Plays (New 12) Drawn)
use_of None = None

-- the scripts that it runs, which are those of its sources, or those of a drill
abbrev pub AreRun : {S : Type 0} → ShownSource S → Option Command → List S → List (List (Step Call Query)) → Type 0
AreRun source (Some (Try names)) sources scripts = AreScripts ReadsTrio source sources scripts
AreRun source (Some (Run file names)) sources scripts = AreScripts ReadsTrio source sources scripts
AreRun source (Some (Format file order)) sources scripts = ⊥
AreRun source (Some (Stat file)) sources scripts = (sources ≡ []) × (scripts ≡ [])
AreRun source (Some (Upgrade file)) sources scripts = ⊥
AreRun source (Some (Drill start callers calls)) sources scripts = (sources ≡ []) × (scripts ≡ drill_scripts start callers calls)
AreRun source None sources scripts = ⊥

-- what it prints of its session and its results
abbrev pub IsPrinted : {O : Type 0} → ShownSink O → Option Command → Story State → List (List (LineResult Reply Answer)) → O → O → ℕ → Type 0
IsPrinted sink (Some (Try scripts)) story results old new status = IsText sink trio_texts story results old new status
IsPrinted sink (Some (Run file scripts)) story results old new status = IsText sink trio_texts story results old new status
IsPrinted sink (Some (Format file order)) story results old new status = ⊥
IsPrinted sink (Some (Stat file)) story results old new status =
    (status ≡ 0) × (results ≡ []) × IsWrittenOrCutShort sink old new (stat_text story.order story.opening story.opening_count)
IsPrinted sink (Some (Upgrade file)) story results old new status = ⊥
IsPrinted sink (Some (Drill start callers calls)) story results old new status = IsDrillText sink (drill_told start callers calls story) results old new status
IsPrinted sink None story results old new status = ⊥
