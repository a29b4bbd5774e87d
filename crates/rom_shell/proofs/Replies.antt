-- What a session leaves to be said of what was printed.
use Rattle.std.specs.Prelude.{◌≡◌, ◌≢◌, ℕ, zero, suc, List, [], ◌∷◌, length, IsNone, Option, Some, None, IfSome}
use Rattle.std.proofs.Common.{refl, arith}
use Rattle.rom_model.specs.Region.{Contents}
use Rattle.rom_model.specs.Trio.{trio}
use Rattle.rom_device.specs.Device.{ShownDevice}
use Rattle.rom_script.specs.Drill.{drill_scripts}
use Rattle.rom_text.specs.Streams.{ShownSink, ShownSource}
use Rattle.rom_store.specs.Sessions.{EachStory, SessionSeen}
use Rattle.rom_run.specs.Played.{HasReplies}
use Rattle.rom_run.specs.Use.{Plays, Scripts}
use Rattle.rom_run.specs.Working.{HasSession, IsStill}
use Rattle.rom_run.specs.declared.heap.Heap.{Heap}
use Rattle.rom_run.specs.declared.heap.Heap.TheVariants.{New, Standing}
use Rattle.rom_shell.specs.Drilled.{HaveDrilled}
use Rattle.rom_shell.specs.Run.{AreRun, IsPrinted}
use Rattle.rom_shell.specs.Stat.{IsStatShown}
use Rattle.rom_words.specs.Words.{Stat, Drill}

-- a command with no script has no source
pub no_source : {S : Type 0} (xs : List S) → length xs ≡ 0 → xs ≡ []
no_source [] none = refl
no_source (x ∷ xs) none = absurd (omega arith)

-- of a heap on which scripts were played nothing is said to be as it was
pub played_still : {D : Type 0} (shown : ShownDevice D) (was now : D) (heap : Heap) (scripts : Scripts) (session : Option SessionSeen) → IfSome session (λ s. EachStory trio Contents s (IsStill Contents shown (Some (Plays heap scripts)) was now))
played_still shown was now heap scripts None = tt
played_still shown was now heap scripts (Some s) = λ story of. tt

module _ {D S O : Type 0} (shown : ShownDevice D) (source : ShownSource S) (sink : ShownSink O) (was now : D) (sources : List S) (old new : O) (none : sources ≡ []) where
  -- of a heap that was shown, if it was
  pub shown_session : (file : List ℕ) (status : ℕ) (session : Option SessionSeen) → (status ≢ 0 → IsNone session) → IfSome session (HasSession trio Contents shown Standing was now (IsStatShown sink old new)) →
      IfSome session (HasSession trio Contents shown Standing was now (HasReplies trio (AreRun source (Some (Stat file))) (IsPrinted sink (Some (Stat file))) sources old new status))
  shown_session file status None left is = tt
  shown_session file zero (Some z) left is = record {
    story = is.story;
    each = is.each;
    certain = is.certain;
    told = λ story of. let p = is.told story of in record { scripts = []; results = []; read = (none, refl); answered = p.answered; printed = (refl, refl, p.printed) };
  }
  shown_session file (suc n) (Some z) left is = let some : IsNone (Some z) = left (λ is. absurd (omega (arith, is))) in absurd (let no : ⊥ = cc in no)

  -- and of a drill
  pub drilled_session : (start callers calls status : ℕ) (session : Option SessionSeen) → IfSome session (HasSession trio Contents shown (New 12) was now (HaveDrilled sink start callers calls old new status)) →
      IfSome session (HasSession trio Contents shown (New 12) was now (HasReplies trio (AreRun source (Some (Drill start callers calls))) (IsPrinted sink (Some (Drill start callers calls))) sources old new status))
  drilled_session start callers calls status None is = tt
  drilled_session start callers calls status (Some z) is = record {
    story = is.story;
    each = is.each;
    certain = is.certain;
    told = λ story of. let p = is.told story of in record { scripts = drill_scripts start callers calls; results = p.results; read = (none, refl); answered = p.answered; printed = p.printed };
  }
