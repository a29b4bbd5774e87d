use Rattle.std.proofs.Common.{map, take}
use Rattle.rom_text.specs.Text.{AreOfType, callers_text, texts_of}
use Rattle.rom_text.proofs.Prints.{Printed}
use Rattle.rom_text.proofs.report.print_callers.Given as goal

-- the callers so far are printed, and their numbers are of their types
abbrev pub invariant-loop-i : goal.invariant-loop-i
invariant-loop-i g l = record {
  printed : Printed g.S.Sink.shown l.fn.out l.out (callers_text (texts_of g.P.PrintReplies.shown g.O.Answer.Print.shown) 1 (map (λ v. v.items) (take l.i l.results)));
  of_type : AreOfType (texts_of g.P.PrintReplies.shown g.O.Answer.Print.shown) (map (λ v. v.items) (take l.i l.results));
}
