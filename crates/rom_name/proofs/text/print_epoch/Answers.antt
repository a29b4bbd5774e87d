use Rattle.std.proofs.Common.{[], ◌∷◌, ◌++◌, codes, decimal}
use Rattle.rom_text.specs.Text.{line_text}
use Rattle.rom_name.specs.Texts.{name_text}
use Rattle.rom_text.proofs.Prints.{both_printed, printed, prints_stopped, stopped, stopped_first}
use Rattle.rom_name.proofs.text.print_epoch.Goals as goal

pub returns-in_err-print_named : goal.returns-in_err-print_named
returns-in_err-print_named g c = record {
  prints = let o = g.O.Sink.shown in
      prints_stopped o _ _ _ c.from_residual.result _ c.from_residual.ensures.1
      (stopped_first o _ _ ((codes "# TYPE romulus_epoch gauge" ++ 10 ∷ codes "romulus_epoch{name=" ++ 34 ∷ []) ++ name_text c.args.own.now.identity.name) (line_text ((34 ∷ codes "} ") ++ decimal c.args.own.now.identity.epoch)) (stopped o _ _ _ _ c.in_err-print_named.ensures.prints));
}

pub returns : goal.returns
returns g c = record {
  prints = let o = g.O.Sink.shown in
      both_printed o _ _ _ c.print_one.result ((codes "# TYPE romulus_epoch gauge" ++ 10 ∷ codes "romulus_epoch{name=" ++ 34 ∷ []) ++ name_text c.args.own.now.identity.name) _ (printed o _ _ _ _ c.in_ok-print_named.ensures.prints) c.print_one.ensures.prints;
}
