use Rattle.std.proofs.Common.{◌≡◌, ◌∙◌, ap, slice_index, sym, subst}
use Rattle.rom_text.proofs.Prints.{Printed, Stopped, both_printed, printed, prints_stopped, stopped, stopped_first}
use Rattle.rom_dump.specs.Shown.{common_text}
use Rattle.rom_dump.proofs.metrics.print_metrics.Goals as goal

pub returns-in_err-print_common : goal.returns-in_err-print_common
returns-in_err-print_common g c = record {
  prints = λ measures measured.
      let o = g.K.Sink.shown in
      let same : common_text c.from.result c.from-2.result c.from-3.result c.from-4.result ≡ common_text c.args.order g.O.Object.KIND (slice_index c.args.image.items 2) c.args.state = let order : c.from.result ≡ c.args.order = c.from.ensures in
      let kind : c.from-2.result ≡ g.O.Object.KIND = c.from-2.ensures ∙ c.KIND.ensures in
      let count : c.from-3.result ≡ slice_index c.args.image.items 2 = c.from-3.ensures ∙ c.count_of-count.ensures ∙ ap (λ words. slice_index words 2) c.as_slice.ensures.value in
      let state : c.from-4.result ≡ c.args.state = c.from-4.ensures in
      λ i. common_text (order i) (kind i) (count i) (state i) in
      prints_stopped o _ _ _ c.from_residual.result _ c.from_residual.ensures.1
      (stopped_first o _ _ _ measures (subst (λ text. Stopped o c.args.out.now c.print_common.new.out text) same (stopped o _ _ _ _ c.in_err-print_common.ensures.prints)));
}

pub returns : goal.returns
returns g c = record {
  prints = λ measures measured.
      let o = g.K.Sink.shown in
      let same : common_text c.from.result c.from-2.result c.from-3.result c.from-4.result ≡ common_text c.args.order g.O.Object.KIND (slice_index c.args.image.items 2) c.args.state = let order : c.from.result ≡ c.args.order = c.from.ensures in
      let kind : c.from-2.result ≡ g.O.Object.KIND = c.from-2.ensures ∙ c.KIND.ensures in
      let count : c.from-3.result ≡ slice_index c.args.image.items 2 = c.from-3.ensures ∙ c.count_of-count.ensures ∙ ap (λ words. slice_index words 2) c.as_slice.ensures.value in
      let state : c.from-4.result ≡ c.args.state = c.from-4.ensures in
      λ i. common_text (order i) (kind i) (count i) (state i) in
      both_printed o _ _ _ c.print_measures.result _ measures (subst (λ text. Printed o c.args.out.now c.print_common.new.out text) same (printed o _ _ _ _ c.in_ok-print_common.ensures.prints))
      (c.print_measures.ensures.prints measures (subst (λ w. g.C.Carry.Measured c.args.order w measures) (sym c.of-space.ensures) measured));
}
