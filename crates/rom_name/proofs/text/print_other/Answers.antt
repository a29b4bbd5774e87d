use Rattle.std.proofs.Common.{◌++◌, codes}
use Rattle.rom_name.specs.Texts.{name_text}
use Rattle.rom_text.proofs.Prints.{both_printed, printed, prints_stopped, stopped, stopped_first}
use Rattle.rom_name.proofs.text.print_other.Goals as goal

pub returns-in_err-print_named : goal.returns-in_err-print_named
returns-in_err-print_named g c = record {
  prints = let o = g.O.Sink.shown in
      prints_stopped o _ _ _ c.from_residual.result _ c.from_residual.ensures.1
      (stopped_first o _ _ (codes "refused: another heap " ++ name_text c.args.name) (codes "\n") (stopped o _ _ _ _ c.in_err-print_named.ensures.prints));
}

pub returns : goal.returns
returns g c = record {
  prints = let o = g.O.Sink.shown in
      both_printed o _ _ _ c.print_text.result (codes "refused: another heap " ++ name_text c.args.name) (codes "\n") (printed o _ _ _ _ c.in_ok-print_named.ensures.prints) c.print_text.ensures.prints;
}
