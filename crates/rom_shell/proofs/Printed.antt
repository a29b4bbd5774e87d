-- What is printed with the statuses 7 and 1.
use Rattle.std.specs.Prelude.{◌≡◌, ℕ, Bool, true, false, if◌then◌else◌, List, Option, Some, None}
use Rattle.std.proofs.Common.{refl, arith, inl, inr}
use Rattle.std.specs.List.{list_any}
use Rattle.rom_model.specs.State.{State}
use Rattle.rom_model.specs.Story.{Story}
use Rattle.rom_model.specs.declared.call.Answer.{Answer}
use Rattle.rom_model.specs.declared.call.Reply.{Reply}
use Rattle.rom_model.specs.declared.line.LineResult.{LineResult}
use Rattle.rom_script.specs.Trio.{trio_texts}
use Rattle.rom_text.specs.Streams.{ShownSink}
use Rattle.rom_run.specs.Played.{text_output}
use Rattle.rom_run.specs.Statuses.{is_faulted, is_unread}
use Rattle.rom_run.proofs.Completing.{output_faulted, output_unread}
use Rattle.rom_shell.specs.Run.{IsPrinted}
use Rattle.rom_words.specs.Words.{Command, Try, Run, Format, Stat, Upgrade, Drill}

seven_drill : (a : Bool) → ◌≡◌ {A = ℕ} 7 (if a then 7 else 0) → a ≡ true
seven_drill true is = refl
seven_drill false is = absurd (omega (arith, is))

one_drill : (a : Bool) → ◌≡◌ {A = ℕ} 1 (if a then 7 else 0) → ⊥
one_drill true is = absurd (omega (arith, is))
one_drill false is = absurd (omega (arith, is))

module _ {O : Type 0} (sink : ShownSink O) where
  -- with 7 an update is told of a fault
  pub printed_faulted : (asked : Option Command) (story : Story State) (results : List (List (LineResult Reply Answer))) (old new : O) → IsPrinted sink asked story results old new 7 → list_any (λ rs. list_any is_faulted rs) results ≡ true
  printed_faulted (Some (Try scripts)) story results old new is = output_faulted sink (text_output trio_texts) story results old new is
  printed_faulted (Some (Run file scripts)) story results old new is = output_faulted sink (text_output trio_texts) story results old new is
  printed_faulted (Some (Format file order)) story results old new is = absurd is
  printed_faulted (Some (Stat file)) story results old new is = let no = is.0 in absurd (omega (arith, no))
  printed_faulted (Some (Upgrade file)) story results old new is = absurd is
  printed_faulted (Some (Drill start callers calls)) story results old new (inl is) = seven_drill _ is.0
  printed_faulted (Some (Drill start callers calls)) story results old new (inr is) = let no = is.0 in absurd (omega (arith, no))
  printed_faulted None story results old new is = absurd is

  -- with 1 a line is unread
  pub printed_unread : (asked : Option Command) (story : Story State) (results : List (List (LineResult Reply Answer))) (old new : O) → IsPrinted sink asked story results old new 1 → list_any (λ rs. list_any is_unread rs) results ≡ true
  printed_unread (Some (Try scripts)) story results old new is = output_unread sink (text_output trio_texts) story results old new is
  printed_unread (Some (Run file scripts)) story results old new is = output_unread sink (text_output trio_texts) story results old new is
  printed_unread (Some (Format file order)) story results old new is = absurd is
  printed_unread (Some (Stat file)) story results old new is = let no = is.0 in absurd (omega (arith, no))
  printed_unread (Some (Upgrade file)) story results old new is = absurd is
  printed_unread (Some (Drill start callers calls)) story results old new (inl is) = absurd (one_drill _ is.0)
  printed_unread (Some (Drill start callers calls)) story results old new (inr is) = let no = is.0 in absurd (omega (arith, no))
  printed_unread None story results old new is = absurd is
