use Rattle.std.proofs.Common.{take}
use Rattle.std.specs.List.{AllByRecursion}
use Rattle.rom_text.specs.Text.{ResultFits, results_text, texts_of}
use Rattle.rom_text.proofs.Prints.{Printed}
use Rattle.rom_text.proofs.report.print_results.Given as goal

-- the results so far are printed, and their numbers are of their types
abbrev pub invariant-loop-i : goal.invariant-loop-i
invariant-loop-i g l = record {
  printed : Printed g.S.Sink.shown l.fn.out l.out (results_text (texts_of g.P.PrintReplies.shown g.O.Answer.Print.shown) (take l.i l.results.items));
  of_type : AllByRecursion (ResultFits (texts_of g.P.PrintReplies.shown g.O.Answer.Print.shown)) (take l.i l.results.items);
}
