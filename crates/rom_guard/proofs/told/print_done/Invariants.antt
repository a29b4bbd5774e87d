use Rattle.std.proofs.Common.{◌≤◌, length, take}
use Rattle.std.specs.List.{AllByRecursion}
use Rattle.rom_text.proofs.Prints.{Printed}
use Rattle.rom_guard.specs.Texts.{done_text}
use Rattle.rom_guard.specs.Working.{told_in}
use Rattle.rom_guard.proofs.told.print_done.Given as goal

-- the sink has taken what the members so far were told
abbrev pub invariant-loop-i : goal.invariant-loop-i
invariant-loop-i g l = let told = told_in g.P.Members.shown l.words in record {
  some : 1 ≤ l.i;
  within : l.i ≤ length told;
  printed : Printed g.S.Sink.shown l.fn.out l.out (done_text g.P.Told.Print.shown (take l.i told));
  fits : AllByRecursion g.P.Told.Print.shown.Fits (take l.i told);
}
