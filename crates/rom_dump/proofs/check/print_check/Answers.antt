use Rattle.std.proofs.Common.{◌++◌, ap, codes, sym, subst}
use Rattle.rom_run.specs.Refusing.{kind_name}
use Rattle.rom_text.specs.Text.{line_text}
use Rattle.rom_text.proofs.Prints.{Printed, Stopped, both_printed, printed, prints_stopped, stopped, stopped_first, stopped_second}
use Rattle.rom_dump.proofs.check.print_check.Goals as goal

pub returns-in_err-print_text : goal.returns-in_err-print_text
returns-in_err-print_text g c = record {
  prints = λ sizes sized.
      let o = g.K.Sink.shown in
      prints_stopped o _ _ _ c.from_residual.result _ c.from_residual.ensures.1
      (stopped_first o _ _ c.args.line.now (line_text (codes "kind " ++ kind_name g.O.Object.KIND) ++ sizes) (stopped o _ _ _ _ c.in_err-print_text.ensures.prints));
}

pub returns-in_err-print_kind : goal.returns-in_err-print_kind
returns-in_err-print_kind g c = record {
  prints = λ sizes sized.
      let o = g.K.Sink.shown in
      let kind = line_text (codes "kind " ++ kind_name c.KIND.result) in
      let same = ap (λ number. line_text (codes "kind " ++ kind_name number)) c.KIND.ensures in
      prints_stopped o _ _ _ c.from_residual-in_err-print_kind.result _ c.from_residual-in_err-print_kind.ensures.1
      (stopped_second o _ _ _ c.args.line.now _ (printed o _ _ _ _ c.in_ok-print_text.ensures.prints) (subst (λ text. Stopped o c.print_text.new.out c.print_kind.new.out (text ++ sizes)) same (stopped_first o _ _ kind sizes (stopped o _ _ _ _ c.in_err-print_kind.ensures.prints))));
}

pub returns : goal.returns
returns g c = record {
  prints = λ sizes sized.
      let o = g.K.Sink.shown in
      let same = ap (λ number. line_text (codes "kind " ++ kind_name number)) c.KIND.ensures in
      let kind = subst (λ text. Printed o c.print_text.new.out c.print_kind.new.out text) same (printed o _ _ _ _ c.in_ok-print_kind.ensures.prints) in
      both_printed o _ _ _ c.print_sizes.result c.args.line.now _ (printed o _ _ _ _ c.in_ok-print_text.ensures.prints)
      (both_printed o _ _ _ c.print_sizes.result _ sizes kind
      (c.print_sizes.ensures.prints sizes (subst (λ w. g.C.Carry.Sized c.args.order w sizes) (sym c.of-space.ensures) sized)));
}
