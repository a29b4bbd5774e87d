use Rattle.std.proofs.Common.{◌≡◌, ◌+◌, ◌-◌, ◌^◌, ◌<◌, length, take, drop, get_or, sym, ◌∙◌, subst, arith}
use Rattle.std.proofs.lemmas.List.{length-take, take_all, take_more}
use Rattle.rom_model.specs.VecSpace.{words_of_space}
use Rattle.rom_order_region.specs.declared.call.OrderReply.{OrderReply}
use Rattle.rom_order_region.specs.Keys.{EntriesRise}
use Rattle.rom_order_region.specs.Region.{IndexContents}
use Rattle.rom_order_region.specs.State.{Pairs}
use Rattle.rom_order_region.proofs.Frame.{half_small}
use Rattle.rom_order_carry.specs.Entries.{Holds}
use Rattle.rom_order_carry.proofs.Putting.{no_entries, puts_behind, round_entry}
use Rattle.rom_order_carry.proofs.grow.put_all.Goals as goal

pub loop-entry-init : goal.loop-entry-init
loop-entry-init c = (_, no_entries, c.requires.empty)

pub apply_order-requires-clause-region : goal.apply_order-requires-clause-region
apply_order-requires-clause-region c =
    let h = c.loop-entry.invariant in
    (h.0, c.loop-entry.entry-index, h.2, omega (arith, c.loop-entry-test.true, c.requires.few, half_small c.args.order c.requires.order))

pub loop-entry-preserved : goal.loop-entry-preserved
loop-entry-preserved c =
    let n = c.args.order in
    let es = c.args.entries.now in
    let i = c.loop-entry.entry-index in
    let h = c.loop-entry.invariant in
    let lt = c.loop-entry-test.true in
    let e = get_or es i (0, 0) in
    let done = c.apply_order.ensures.done h.0 i h.2 in
    let round = round_entry es i (0, 0) lt in
    let few : length (take i es) < 2 ^ (n - 1) = omega (arith, length-take i es, lt, c.requires.few) in
    let put = puts_behind n h.0 i (take i es) e (drop (i + 1) es) h.1 (subst EntriesRise (sym round) c.requires.rise) few in
    (_, put.entries ∙ sym (take_more es i (0, 0) lt), subst (λ (after : Pairs × OrderReply). IndexContents n (words_of_space c.apply_order.new.space) after.0 (i + 1)) put.step done.1)

pub returns : goal.returns
returns c =
    let es = c.args.entries.now in
    let i = c.loop-entry.entry-index in
    let h = c.loop-entry.invariant in
    let all : i ≡ length es = omega (arith, c.loop-entry-test.false, c.loop-entry.auto.entry-index-end) in
    subst (λ k. Holds c.args.order (words_of_space c.loop-entry.space) es k) all (h.0, h.1 ∙ take_all i es (omega (arith, all)), h.2)
