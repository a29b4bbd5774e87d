use Rattle.std.proofs.Common.{◌-◌, ◌∙◌, ap, subst}
use Rattle.std.specs.Prelude.{slice_index}
use Rattle.rom_text.specs.Streams.{Prints}
use Rattle.rom_order_carry.proofs.SizesText.{pieces_text, sizes_are}
use Rattle.rom_order_carry.proofs.sizes.print_order_sizes.Goals as goal

pub returns : goal.returns
returns g c = record {
  prints = λ s k held.
      let all = c.totals_of-all in
      let keys = all.result.keys in
      let free = c.power_of_two.result - keys in
      let count = slice_index c.words.result.now 2 in
      let count_is = ap (λ w. slice_index w 2) c.words.ensures ∙ held.1.count_is in
      let told = sizes_are c.args.order s k count keys free all.result.total count_is (all.ensures.keys s k held) (ap (λ m. m - keys) c.power_of_two.ensures.is) (all.ensures.total s k held) in
      subst (λ text. Prints g.K.Sink.shown c.args.out.now c.print_pieces.new.out c.print_pieces.result text)
      ((λ i. pieces_text (c.format-order.ensures.text i) (c.format-count.ensures.text i) (c.format-keys.ensures.text i) (c.format-free.ensures.text i) (c.format-total.ensures.text i)) ∙ told) c.print_pieces.ensures.prints;
}
