use Rattle.std.proofs.Common.{◌++◌, codes, decimal}
use Rattle.rom_text.specs.Text.{line_text}
use Rattle.rom_name.specs.Texts.{name_text}
use Rattle.rom_text.proofs.Prints.{both_printed, printed, prints_stopped, stopped, stopped_first}
use Rattle.rom_name.proofs.text.print_with_name.Goals as goal

pub returns-in_err-print_named : goal.returns-in_err-print_named
returns-in_err-print_named g c = record {
  prints = let o = g.O.Sink.shown in
      prints_stopped o _ _ _ c.from_residual.result _ c.from_residual.ensures.1
      (stopped_first o _ _ (codes "name " ++ name_text c.args.identity.now.name) (line_text (codes " epoch " ++ decimal c.args.identity.now.epoch ++ codes " since " ++ decimal c.args.identity.now.since)) (stopped o _ _ _ _ c.in_err-print_named.ensures.prints));
}

pub returns : goal.returns
returns g c = record {
  prints = let o = g.O.Sink.shown in
      both_printed o _ _ _ c.print_two.result (codes "name " ++ name_text c.args.identity.now.name) _ (printed o _ _ _ _ c.in_ok-print_named.ensures.prints) c.print_two.ensures.prints;
}
