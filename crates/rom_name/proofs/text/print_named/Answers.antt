use Rattle.std.proofs.Common.{subst}
use Rattle.rom_text.specs.Streams.{Prints}
use Rattle.rom_name.specs.Texts.{name_text}
use Rattle.rom_text.proofs.Prints.{both_printed, printed, prints_stopped, stopped, stopped_first}
use Rattle.rom_name.proofs.text.print_named.Goals as goal

pub returns-in_err-print_text : goal.returns-in_err-print_text
returns-in_err-print_text g c = record {
  prints = let o = g.O.Sink.shown in
      prints_stopped o _ _ _ c.from_residual.result _ c.from_residual.ensures.1
      (stopped_first o _ _ c.args.before.now (name_text c.args.name) (stopped o _ _ _ _ c.in_err-print_text.ensures.prints));
}

pub returns : goal.returns
returns g c = record {
  prints = let o = g.O.Sink.shown in
      both_printed o _ _ _ c.print_bytes.result c.args.before.now (name_text c.args.name) (printed o _ _ _ _ c.in_ok-print_text.ensures.prints)
      (subst (λ t. Prints o c.print_text.new.out c.print_bytes.new.out c.print_bytes.result t) c.digits_of.ensures c.print_bytes.ensures.prints);
}
