use Rattle.std.proofs.Common.{◌-◌, ◌*◌, ◌/◌, ◌∙◌, ap, subst}
use Rattle.std.specs.Prelude.{codes}
use Rattle.rom_text.specs.Streams.{Prints}
use Rattle.rom_carry.specs.Gauges.{gauge_text}
use Rattle.rom_text.proofs.Prints.{printed, stopped, prints_stopped, stopped_first, stopped_second, both_printed}
use Rattle.rom_order_carry.proofs.SizesText.{gauges_text, measures_are}
use Rattle.rom_order_carry.proofs.sizes.print_order_measures.Goals as goal

pub returns-in_err-print_gauge : goal.returns-in_err-print_gauge
returns-in_err-print_gauge g c = record {
  prints = λ s k held.
      let o = g.K.Sink.shown in
      let all = c.totals_of-all in
      let keys = all.result.keys in
      let room = c.power_of_two-room in
      let free = room.result - keys in
      let percent = free * 100 / room.result in
      let told = measures_are c.args.order s k keys free percent all.result.total (all.ensures.keys s k held) (ap (λ m. m - keys) room.ensures.is) (ap (λ m. free * 100 / m) room.ensures.is) (all.ensures.total s k held) in
      subst (λ text. Prints o c.args.out.now c.print_gauge.new.out c.from_residual.result text) told (prints_stopped o _ _ _ c.from_residual.result (gauges_text keys free percent all.result.total) c.from_residual.ensures.1
      (stopped_first o _ _ (gauge_text (codes "keys") keys) _ (stopped o _ _ _ _ c.in_err-print_gauge.ensures.prints)));
}

pub returns-in_err-print_gauge-2 : goal.returns-in_err-print_gauge-2
returns-in_err-print_gauge-2 g c = record {
  prints = λ s k held.
      let o = g.K.Sink.shown in
      let all = c.totals_of-all in
      let keys = all.result.keys in
      let room = c.power_of_two-room in
      let free = room.result - keys in
      let percent = free * 100 / room.result in
      let result = c.from_residual-in_err-print_gauge-2 in
      let told = measures_are c.args.order s k keys free percent all.result.total (all.ensures.keys s k held) (ap (λ m. m - keys) room.ensures.is) (ap (λ m. free * 100 / m) room.ensures.is) (all.ensures.total s k held) in
      subst (λ text. Prints o c.args.out.now c.print_gauge-2.new.out result.result text) told (prints_stopped o _ _ _ result.result (gauges_text keys free percent all.result.total) result.ensures.1
      (stopped_second o _ _ _ (gauge_text (codes "keys") keys) _ (printed o _ _ _ _ c.in_ok-print_gauge.ensures.prints)
      (stopped_first o _ _ (gauge_text (codes "free_keys") free) _ (stopped o _ _ _ _ c.in_err-print_gauge-2.ensures.prints))));
}

pub returns-in_err-print_gauge-3 : goal.returns-in_err-print_gauge-3
returns-in_err-print_gauge-3 g c = record {
  prints = λ s k held.
      let o = g.K.Sink.shown in
      let all = c.totals_of-all in
      let keys = all.result.keys in
      let room = c.power_of_two-room in
      let free = room.result - keys in
      let percent = c.percent_of.result in
      let result = c.from_residual-in_err-print_gauge-3 in
      let told = measures_are c.args.order s k keys free percent all.result.total (all.ensures.keys s k held) (ap (λ m. m - keys) room.ensures.is) (c.percent_of.ensures ∙ ap (λ m. free * 100 / m) room.ensures.is) (all.ensures.total s k held) in
      subst (λ text. Prints o c.args.out.now c.print_gauge-3.new.out result.result text) told (prints_stopped o _ _ _ result.result (gauges_text keys free percent all.result.total) result.ensures.1
      (stopped_second o _ _ _ (gauge_text (codes "keys") keys) _ (printed o _ _ _ _ c.in_ok-print_gauge.ensures.prints)
      (stopped_second o _ _ _ (gauge_text (codes "free_keys") free) _ (printed o _ _ _ _ c.in_ok-print_gauge-2.ensures.prints)
      (stopped_first o _ _ (gauge_text (codes "free_percent") percent) _ (stopped o _ _ _ _ c.in_err-print_gauge-3.ensures.prints)))));
}

pub returns : goal.returns
returns g c = record {
  prints = λ s k held.
      let o = g.K.Sink.shown in
      let all = c.totals_of-all in
      let keys = all.result.keys in
      let room = c.power_of_two-room in
      let free = room.result - keys in
      let percent = c.percent_of.result in
      let told = measures_are c.args.order s k keys free percent all.result.total (all.ensures.keys s k held) (ap (λ m. m - keys) room.ensures.is) (c.percent_of.ensures ∙ ap (λ m. free * 100 / m) room.ensures.is) (all.ensures.total s k held) in
      subst (λ text. Prints o c.args.out.now c.print_gauge-4.new.out c.print_gauge-4.result text) told
      (both_printed o _ _ _ _ (gauge_text (codes "keys") keys) _ (printed o _ _ _ _ c.in_ok-print_gauge.ensures.prints)
      (both_printed o _ _ _ _ (gauge_text (codes "free_keys") free) _ (printed o _ _ _ _ c.in_ok-print_gauge-2.ensures.prints)
      (both_printed o _ _ _ _ (gauge_text (codes "free_percent") percent) _ (printed o _ _ _ _ c.in_ok-print_gauge-3.ensures.prints) c.print_gauge-4.ensures.prints)));
}
