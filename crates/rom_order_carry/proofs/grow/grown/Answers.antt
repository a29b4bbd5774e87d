use Rattle.std.proofs.Common.{◌≡◌, ◌∙◌, length, sym, ap, subst, arith}
use Rattle.std.specs.Prelude.{slice_index, slice_set}
use Rattle.std.specs.FinMap as map
use Rattle.rom_model.specs.VecSpace.{words_of_space}
use Rattle.rom_order_region.specs.Keys.{EntriesRise}
use Rattle.rom_order_region.specs.Region.{IndexContents}
use Rattle.rom_order_region.specs.State.{Pairs}
use Rattle.rom_order_region.proofs.Sorted.{rises}
use Rattle.rom_order_carry.proofs.Putting.{room_above}
use Rattle.rom_order_carry.proofs.Recounted.{recounted}
use Rattle.rom_order_carry.proofs.grow.grown.Goals as goal

pub put_all-requires-clause-rise : goal.put_all-requires-clause-rise
put_all-requires-clause-rise c =
    let r = c.requires.region in
    subst EntriesRise (sym (c.deref.ensures.value ∙ c.in_ok-entries.ensures.entries r.0 r.1 r.2)) (rises r.0)

pub put_all-requires-clause-few : goal.put_all-requires-clause-few
put_all-requires-clause-few c = omega (arith, ap length c.deref.ensures.value, c.in_ok-entries.ensures.few, room_above c.args.order c.args.greater (omega (arith, c.requires.greater.0)))

pub returns : goal.returns
returns c s k held =
    let n = c.args.greater in
    let w = words_of_space c.put_all.new.space in
    let put = c.put_all.ensures in
    let many = length c.deref.result.now in
    let same : put.0 ≡ s = map.same_entries_map put.0 s (put.1 ∙ c.deref.ensures.value ∙ c.in_ok-entries.ensures.entries s k held) in
    let count_is : slice_index c.words.result.now 2 ≡ k = ap (λ v. slice_index v 2) c.words.ensures ∙ held.1.count_is in
    let there : IndexContents n w s many = subst (λ (m : Pairs). IndexContents n w m many) same put.2 in
    subst (λ v. IndexContents n v s k) (sym (c.store.ensures.image ∙ ap (λ m. slice_set w 2 m) count_is)) (recounted n w s many k held.1.count_fits there)
