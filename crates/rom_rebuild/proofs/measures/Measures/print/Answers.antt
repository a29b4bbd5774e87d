use Rattle.std.proofs.Common.{codes}
use Rattle.rom_carry.specs.Gauges.{gauge_text}
use Rattle.rom_text.proofs.Prints.{printed, stopped, prints_stopped, stopped_first, stopped_second, both_printed}
use Rattle.rom_rebuild.proofs.measures.Measures.print.Goals as goal

pub returns-in_err-print_gauge : goal.returns-in_err-print_gauge
returns-in_err-print_gauge g c =
    let o = g.O.Sink.shown in
    let m = c.args.self.now in
    record {
      prints = prints_stopped o _ _ _ c.from_residual.result _ c.from_residual.ensures.1
          (stopped_first o _ _ (gauge_text (codes "queue_elements") m.queue) _ (stopped o _ _ _ _ c.in_err-print_gauge.ensures.prints));
    }

pub returns-in_err-print_gauge-2 : goal.returns-in_err-print_gauge-2
returns-in_err-print_gauge-2 g c =
    let o = g.O.Sink.shown in
    let m = c.args.self.now in
    record {
      prints = prints_stopped o _ _ _ c.from_residual-in_err-print_gauge-2.result _ c.from_residual-in_err-print_gauge-2.ensures.1
          (stopped_second o _ _ _ (gauge_text (codes "queue_elements") m.queue) _ (printed o _ _ _ _ c.in_ok-print_gauge.ensures.prints)
          (stopped_first o _ _ (gauge_text (codes "set_elements") m.members) _ (stopped o _ _ _ _ c.in_err-print_gauge-2.ensures.prints)));
    }

pub returns-in_err-print_gauge-3 : goal.returns-in_err-print_gauge-3
returns-in_err-print_gauge-3 g c =
    let o = g.O.Sink.shown in
    let m = c.args.self.now in
    record {
      prints = prints_stopped o _ _ _ c.from_residual-in_err-print_gauge-3.result _ c.from_residual-in_err-print_gauge-3.ensures.1
          (stopped_second o _ _ _ (gauge_text (codes "queue_elements") m.queue) _ (printed o _ _ _ _ c.in_ok-print_gauge.ensures.prints)
          (stopped_second o _ _ _ (gauge_text (codes "set_elements") m.members) _ (printed o _ _ _ _ c.in_ok-print_gauge-2.ensures.prints)
          (stopped_first o _ _ (gauge_text (codes "map_elements") m.keys) _ (stopped o _ _ _ _ c.in_err-print_gauge-3.ensures.prints))));
    }

pub returns-in_err-print_gauge-4 : goal.returns-in_err-print_gauge-4
returns-in_err-print_gauge-4 g c =
    let o = g.O.Sink.shown in
    let m = c.args.self.now in
    record {
      prints = prints_stopped o _ _ _ c.from_residual-in_err-print_gauge-4.result _ c.from_residual-in_err-print_gauge-4.ensures.1
          (stopped_second o _ _ _ (gauge_text (codes "queue_elements") m.queue) _ (printed o _ _ _ _ c.in_ok-print_gauge.ensures.prints)
          (stopped_second o _ _ _ (gauge_text (codes "set_elements") m.members) _ (printed o _ _ _ _ c.in_ok-print_gauge-2.ensures.prints)
          (stopped_second o _ _ _ (gauge_text (codes "map_elements") m.keys) _ (printed o _ _ _ _ c.in_ok-print_gauge-3.ensures.prints)
          (stopped_first o _ _ (gauge_text (codes "free_elements") m.free) _ (stopped o _ _ _ _ c.in_err-print_gauge-4.ensures.prints)))));
    }

pub returns-in_err-print_gauge-5 : goal.returns-in_err-print_gauge-5
returns-in_err-print_gauge-5 g c =
    let o = g.O.Sink.shown in
    let m = c.args.self.now in
    record {
      prints = prints_stopped o _ _ _ c.from_residual-in_err-print_gauge-5.result _ c.from_residual-in_err-print_gauge-5.ensures.1
          (stopped_second o _ _ _ (gauge_text (codes "queue_elements") m.queue) _ (printed o _ _ _ _ c.in_ok-print_gauge.ensures.prints)
          (stopped_second o _ _ _ (gauge_text (codes "set_elements") m.members) _ (printed o _ _ _ _ c.in_ok-print_gauge-2.ensures.prints)
          (stopped_second o _ _ _ (gauge_text (codes "map_elements") m.keys) _ (printed o _ _ _ _ c.in_ok-print_gauge-3.ensures.prints)
          (stopped_second o _ _ _ (gauge_text (codes "free_elements") m.free) _ (printed o _ _ _ _ c.in_ok-print_gauge-4.ensures.prints)
          (stopped_first o _ _ (gauge_text (codes "free_percent") m.percent) _ (stopped o _ _ _ _ c.in_err-print_gauge-5.ensures.prints))))));
    }

pub returns : goal.returns
returns g c =
    let o = g.O.Sink.shown in
    let m = c.args.self.now in
    record {
      prints = both_printed o _ _ _ c.print_gauge-6.result (gauge_text (codes "queue_elements") m.queue) _ (printed o _ _ _ _ c.in_ok-print_gauge.ensures.prints)
          (both_printed o _ _ _ c.print_gauge-6.result (gauge_text (codes "set_elements") m.members) _ (printed o _ _ _ _ c.in_ok-print_gauge-2.ensures.prints)
          (both_printed o _ _ _ c.print_gauge-6.result (gauge_text (codes "map_elements") m.keys) _ (printed o _ _ _ _ c.in_ok-print_gauge-3.ensures.prints)
          (both_printed o _ _ _ c.print_gauge-6.result (gauge_text (codes "free_elements") m.free) _ (printed o _ _ _ _ c.in_ok-print_gauge-4.ensures.prints)
          (both_printed o _ _ _ c.print_gauge-6.result (gauge_text (codes "free_percent") m.percent) _ (printed o _ _ _ _ c.in_ok-print_gauge-5.ensures.prints)
          c.print_gauge-6.ensures.prints))));
    }
