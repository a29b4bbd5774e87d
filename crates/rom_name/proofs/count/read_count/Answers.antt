use Rattle.std.proofs.Common.{◌≡◌, Some, slice_index, subst, sym, ap, ◌∙◌}
use Rattle.rom_header.specs.Layout.{STATE}
use Rattle.rom_name.specs.Identities.{IsHeapFound, count_at}
use Rattle.rom_name.proofs.Counted.{count_held, one_order}
use Rattle.rom_name.proofs.count.read_count.Goals as goal

pub returns-clause-holds : goal.returns-clause-holds
returns-clause-holds g c told order s k holds =
    let words = g.D.Device.shown.words c.args.device.now in
    let header = c.in-Some.header in
    let found = subst (IsHeapFound words) c.in-Some.is (c.in_ok-header.ensures.answer told) in
    let order_is : header.geometry ≡ order = one_order header.geometry order words found.0 holds.current.heap in
    let place : c.place_of_count.result ≡ count_at order (slice_index words STATE) = c.place_of_count.ensures.is ∙ (λ i. count_at (order_is i) (sym found.1 i)) in
    let held : slice_index words (count_at order (slice_index words STATE)) ≡ k =
    count_held order words holds.region holds.current ∙ (g.met.O.Object.contents_within order holds.region s k holds.contents).1 in
    ap Some (c.in_ok-count.ensures.word told ∙ (λ i. slice_index (c.find_heap.ensures.only.words told i) (place i)) ∙ held)
