use Rattle.std.proofs.Common.{◌++◌, ◌*◌, ◌/◌, subst, ◌∙◌, codes}
use Rattle.std.specs.FinMap as finite
use Rattle.rom_carry.specs.Gauges.{gauge_text}
use Rattle.rom_text.specs.Streams.{Prints}
use Rattle.rom_text.proofs.Prints.{Printed, Stopped, printed, stopped, prints_stopped, stopped_first, stopped_second, both_printed}
use Rattle.rom_blob_carry.specs.Sizes.{bytes_in, free_units, room_in}
use Rattle.rom_blob_carry.proofs.sizes.print_measures.Goals as goal

pub returns-in_err-print_gauge : goal.returns-in_err-print_gauge
returns-in_err-print_gauge g c =
    let o = g.K.Sink.shown in
    let n = c.args.order in
    record {
      prints = λ s k are.
          let keys = gauge_text (codes "keys") (finite.len s) in
          let bytes = gauge_text (codes "bytes") (bytes_in s) in
          let free = gauge_text (codes "free_units") (free_units n s) in
          let percent = gauge_text (codes "free_percent") (free_units n s * 100 / room_in n) in
          prints_stopped o _ _ _ c.from_residual.result _ c.from_residual.ensures.1 (stopped_first o _ _ keys (bytes ++ (free ++ percent))
          (subst (λ v. Stopped o c.args.out.now c.print_gauge.new.out (gauge_text (codes "keys") v)) (c.from.ensures ∙ are.keys) (stopped o _ _ _ _ c.in_err-print_gauge.ensures.prints)));
    }

pub returns-in_err-print_gauge-2 : goal.returns-in_err-print_gauge-2
returns-in_err-print_gauge-2 g c =
    let o = g.K.Sink.shown in
    let n = c.args.order in
    record {
      prints = λ s k are.
          let keys = gauge_text (codes "keys") (finite.len s) in
          let bytes = gauge_text (codes "bytes") (bytes_in s) in
          let free = gauge_text (codes "free_units") (free_units n s) in
          let percent = gauge_text (codes "free_percent") (free_units n s * 100 / room_in n) in
          let first = subst (λ v. Printed o c.args.out.now c.print_gauge.new.out (gauge_text (codes "keys") v)) (c.from.ensures ∙ are.keys) (printed o _ _ _ _ c.in_ok-print_gauge.ensures.prints) in
          prints_stopped o _ _ _ c.from_residual-in_err-print_gauge-2.result _ c.from_residual-in_err-print_gauge-2.ensures.1 (stopped_second o _ _ _ keys (bytes ++ (free ++ percent)) first
          (stopped_first o _ _ bytes (free ++ percent)
          (subst (λ v. Stopped o c.print_gauge.new.out c.print_gauge-2.new.out (gauge_text (codes "bytes") v)) are.bytes (stopped o _ _ _ _ c.in_err-print_gauge-2.ensures.prints))));
    }

pub returns-in_err-print_gauge-3 : goal.returns-in_err-print_gauge-3
returns-in_err-print_gauge-3 g c =
    let o = g.K.Sink.shown in
    let n = c.args.order in
    record {
      prints = λ s k are.
          let keys = gauge_text (codes "keys") (finite.len s) in
          let bytes = gauge_text (codes "bytes") (bytes_in s) in
          let free = gauge_text (codes "free_units") (free_units n s) in
          let percent = gauge_text (codes "free_percent") (free_units n s * 100 / room_in n) in
          let first = subst (λ v. Printed o c.args.out.now c.print_gauge.new.out (gauge_text (codes "keys") v)) (c.from.ensures ∙ are.keys) (printed o _ _ _ _ c.in_ok-print_gauge.ensures.prints) in
          let second = subst (λ v. Printed o c.print_gauge.new.out c.print_gauge-2.new.out (gauge_text (codes "bytes") v)) are.bytes (printed o _ _ _ _ c.in_ok-print_gauge-2.ensures.prints) in
          prints_stopped o _ _ _ c.from_residual-in_err-print_gauge-3.result _ c.from_residual-in_err-print_gauge-3.ensures.1 (stopped_second o _ _ _ keys (bytes ++ (free ++ percent)) first
          (stopped_second o _ _ _ bytes (free ++ percent) second (stopped_first o _ _ free percent
          (subst (λ v. Stopped o c.print_gauge-2.new.out c.print_gauge-3.new.out (gauge_text (codes "free_units") v)) (c.from-2.ensures ∙ are.free) (stopped o _ _ _ _ c.in_err-print_gauge-3.ensures.prints)))));
    }

pub returns : goal.returns
returns g c =
    let o = g.K.Sink.shown in
    let n = c.args.order in
    record {
      prints = λ s k are.
          let keys = gauge_text (codes "keys") (finite.len s) in
          let bytes = gauge_text (codes "bytes") (bytes_in s) in
          let free = gauge_text (codes "free_units") (free_units n s) in
          let percent = gauge_text (codes "free_percent") (free_units n s * 100 / room_in n) in
          let room = c.room.ensures.is in
          let units = are.free in
          let first = subst (λ v. Printed o c.args.out.now c.print_gauge.new.out (gauge_text (codes "keys") v)) (c.from.ensures ∙ are.keys) (printed o _ _ _ _ c.in_ok-print_gauge.ensures.prints) in
          let second = subst (λ v. Printed o c.print_gauge.new.out c.print_gauge-2.new.out (gauge_text (codes "bytes") v)) are.bytes (printed o _ _ _ _ c.in_ok-print_gauge-2.ensures.prints) in
          let third = subst (λ v. Printed o c.print_gauge-2.new.out c.print_gauge-3.new.out (gauge_text (codes "free_units") v)) (c.from-2.ensures ∙ are.free) (printed o _ _ _ _ c.in_ok-print_gauge-3.ensures.prints) in
          both_printed o _ _ _ c.print_gauge-4.result keys (bytes ++ (free ++ percent)) first (both_printed o _ _ _ c.print_gauge-4.result bytes (free ++ percent) second (both_printed o _ _ _ c.print_gauge-4.result free percent third
          (subst (λ v. Prints o c.print_gauge-3.new.out c.print_gauge-4.new.out c.print_gauge-4.result (gauge_text (codes "free_percent") v)) (c.from-3.ensures ∙ c.percent_of-percent.ensures ∙ (λ i. units i * 100 / room i)) c.print_gauge-4.ensures.prints)));
    }
