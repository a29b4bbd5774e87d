use Rattle.std.proofs.Common.{◌≡◌, ℕ, ◌<◌, List, length, sym, ap, subst, arith}
use Rattle.rom_ranges.proofs.Placed.{EndBefore, read_same, placed_last, placed_before, placed_front, placed_same}
use Rattle.rom_ranges.specs.Holding.{AddsOffset}
use Rattle.rom_ranges.specs.declared.range.Range.{Range}
use Rattle.rom_ranges.proofs.holding.hold.Goals as goal

pub returns-then-i-len-clause-holds : goal.returns-then-i-len-clause-holds
returns-then-i-len-clause-holds c =
    let rs : List Range = c.args.ranges.now.items in
    let before : EndBefore c.args.at c.first_near-i.result rs = subst (EndBefore c.args.at c.first_near-i.result) c.as_slice.ensures.value c.first_near-i.ensures.before in
    subst (λ (l : List Range). AddsOffset c.args.at rs l) (sym c.hold_alone.ensures.items)
    (placed_last c.args.at c.first_near-i.result rs c.requires.apart before (omega (arith, c.if-i-len.true, c.len.ensures, c.as_slice.ensures.len, ap length c.as_slice.ensures.value)))

pub returns-then-at-near-clause-holds : goal.returns-then-at-near-clause-holds
returns-then-at-near-clause-holds c =
    let rs : List Range = c.args.ranges.now.items in
    let i : ℕ = c.first_near-i.result in
    let before : EndBefore c.args.at i rs = subst (EndBefore c.args.at i) c.as_slice.ensures.value c.first_near-i.ensures.before in
    let lt : i < length rs = omega (arith, c.first_near-i.ensures.within, c.if-i-len.false, c.len.ensures, c.as_slice.ensures.len, ap length c.as_slice.ensures.value) in
    subst (λ (l : List Range). AddsOffset c.args.at rs l) (sym c.hold_alone-then-at-near.ensures.items)
    (placed_before c.args.at i rs c.requires.apart before lt c.index-near.result.now c.index-near.ensures c.if-at-near.true)

pub returns-then-at-near-2-clause-holds : goal.returns-then-at-near-2-clause-holds
returns-then-at-near-2-clause-holds c =
    let rs : List Range = c.args.ranges.now.items in
    let i : ℕ = c.first_near-i.result in
    let before : EndBefore c.args.at i rs = subst (EndBefore c.args.at i) c.as_slice.ensures.value c.first_near-i.ensures.before in
    let lt : i < length rs = omega (arith, c.first_near-i.ensures.within, c.if-i-len.false, c.len.ensures, c.as_slice.ensures.len, ap length c.as_slice.ensures.value) in
    let same : c.index-near.result.now ≡ c.index_mut.result.now = read_same rs i c.index-near.result.now c.index_mut.result.now lt c.index-near.ensures c.index_mut.ensures.value in
    let start = ap (λ (r : Range). r.start) same in
    placed_front c.args.at i rs c.requires.apart before lt c.index_mut.result.now c.index_mut.ensures.value (omega (arith, start, c.if-at-near-2.true)) (omega (arith, start, c.if-at-near.false))

pub returns-then-at-near-3-clause-holds : goal.returns-then-at-near-3-clause-holds
returns-then-at-near-3-clause-holds c =
    let rs : List Range = c.args.ranges.now.items in
    let i : ℕ = c.first_near-i.result in
    let before : EndBefore c.args.at i rs = subst (EndBefore c.args.at i) c.as_slice.ensures.value c.first_near-i.ensures.before in
    let lt : i < length rs = omega (arith, c.first_near-i.ensures.within, c.if-i-len.false, c.len.ensures, c.as_slice.ensures.len, ap length c.as_slice.ensures.value) in
    placed_same c.args.at i rs c.requires.apart before lt c.index-near.result.now c.index-near.ensures c.if-at-near-2.false c.if-at-near-3.true
