use Rattle.std.proofs.Common.{◌++◌, codes}
use Rattle.rom_carry.specs.Gauges.{gauge_text}
use Rattle.rom_text.proofs.Prints.{both_printed, printed, prints_stopped, stopped, stopped_first, stopped_second}
use Rattle.rom_dump.proofs.metrics.print_common.Goals as goal

pub returns-in_err-print_gauge : goal.returns-in_err-print_gauge
returns-in_err-print_gauge g c = record {
  prints = let o = g.K.Sink.shown in
      prints_stopped o _ _ _ c.from_residual.result _ c.from_residual.ensures.1
      (stopped_first o _ _ (gauge_text (codes "order") c.args.order) _ (stopped o _ _ _ _ c.in_err-print_gauge.ensures.prints));
}

pub returns-in_err-print_gauge-2 : goal.returns-in_err-print_gauge-2
returns-in_err-print_gauge-2 g c = record {
  prints = let o = g.K.Sink.shown in
      prints_stopped o _ _ _ c.from_residual-in_err-print_gauge-2.result _ c.from_residual-in_err-print_gauge-2.ensures.1
      (stopped_second o _ _ _ (gauge_text (codes "order") c.args.order) _ (printed o _ _ _ _ c.in_ok-print_gauge.ensures.prints)
      (stopped_first o _ _ (gauge_text (codes "kind") c.args.kind) _ (stopped o _ _ _ _ c.in_err-print_gauge-2.ensures.prints)));
}

pub returns-in_err-print_gauge-3 : goal.returns-in_err-print_gauge-3
returns-in_err-print_gauge-3 g c = record {
  prints = let o = g.K.Sink.shown in
      prints_stopped o _ _ _ c.from_residual-in_err-print_gauge-3.result _ c.from_residual-in_err-print_gauge-3.ensures.1
      (stopped_second o _ _ _ (gauge_text (codes "order") c.args.order) _ (printed o _ _ _ _ c.in_ok-print_gauge.ensures.prints)
      (stopped_second o _ _ _ (gauge_text (codes "kind") c.args.kind) _ (printed o _ _ _ _ c.in_ok-print_gauge-2.ensures.prints)
      (stopped_first o _ _ (gauge_text (codes "updates") c.args.count) _ (stopped o _ _ _ _ c.in_err-print_gauge-3.ensures.prints))));
}

pub returns : goal.returns
returns g c = record {
  prints = let o = g.K.Sink.shown in
      both_printed o _ _ _ c.print_gauge-4.result (gauge_text (codes "order") c.args.order) _ (printed o _ _ _ _ c.in_ok-print_gauge.ensures.prints)
      (both_printed o _ _ _ c.print_gauge-4.result (gauge_text (codes "kind") c.args.kind) _ (printed o _ _ _ _ c.in_ok-print_gauge-2.ensures.prints)
      (both_printed o _ _ _ c.print_gauge-4.result (gauge_text (codes "updates") c.args.count) _ (printed o _ _ _ _ c.in_ok-print_gauge-3.ensures.prints) c.print_gauge-4.ensures.prints));
}
