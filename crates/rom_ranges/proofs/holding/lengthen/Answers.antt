use Rattle.std.proofs.Common.{◌≡◌, ◌≢◌, ℕ, suc, ◌+◌, ◌<◌, List, length, get_or, sym, ap, ◌∙◌, subst, arith}
use Rattle.std.proofs.lemmas.List.{get_or_default}
use Rattle.rom_ranges.proofs.Placed.{read_same, placed_end, placed_join}
use Rattle.rom_ranges.specs.Holding.{AddsOffset}
use Rattle.rom_ranges.specs.declared.range.Range.{Range}
use Rattle.rom_ranges.proofs.holding.lengthen.Goals.{else-i-len-via-then-i-len+else-index-at, else-i-len-via-else-i-len}
use Rattle.rom_ranges.proofs.holding.lengthen.Goals as goal

pub returns-then-index-at-clause-holds : goal.returns-then-index-at-clause-holds
returns-then-index-at-clause-holds c =
    let rs : List Range = c.args.ranges.now.items in
    let i : ℕ = c.args.i in
    let r : Range = c.index_mut.result.now in
    let s : Range = c.index-then-index-at.result.now in
    let one : i + 1 ≡ suc i = omega arith in
    let more : suc i < length rs = omega (arith, c.if-i-len.true, c.len.ensures, c.args.ranges.now.ok.0) in
    let lt : i < length rs = omega (arith, more) in
    let there : s ≡ get_or rs (suc i) s = c.index-then-index-at.ensures ∙ ap (λ (n : ℕ). get_or rs n s) one in
    let same : c.index.result.now ≡ s = read_same rs (suc i) c.index.result.now s more (c.index.ensures ∙ ap (λ (n : ℕ). get_or rs n c.index.result.now) one) there in
    let ends : r.end ≡ c.args.at = ap (λ (z : Range). z.end) c.index_mut.ensures.value ∙ c.requires.ends r in
    subst (λ (l : List Range). AddsOffset c.args.at rs l) (sym c.remove.ensures.items)
    (placed_join c.args.at i rs c.requires.apart c.requires.before lt r c.index_mut.ensures.value s ends more there (ap (λ (z : Range). z.start) (sym same) ∙ c.if-index-at.true))

-- the next range, if there is one, does not begin there
pub returns-clause-holds : goal.returns-clause-holds
returns-clause-holds c =
    let rs : List Range = c.args.ranges.now.items in
    let i : ℕ = c.args.i in
    let r : Range = c.index_mut-2.result.now in
    let one : i + 1 ≡ suc i = omega arith in
    let lt : i < length rs = omega (arith, c.requires.within, c.args.ranges.now.ok.0) in
    let ends : r.end ≡ c.args.at = ap (λ (z : Range). z.end) c.index_mut-2.ensures.value ∙ c.requires.ends r in
    let none : (d : Range) → suc i < length rs → (get_or rs (suc i) d).start ≢ c.args.at + 1
    = elim c.else-i-len.branch [
      | else-i-len-via-then-i-len+else-index-at w ↦ λ d more is.
          w.if-index-at.false (ap (λ (z : Range). z.start) (read_same rs (suc i) w.index.result.now (get_or rs (suc i) d) more (w.index.ensures ∙ ap (λ (n : ℕ). get_or rs n w.index.result.now) one) (get_or_default rs (suc i) d (get_or rs (suc i) d) more)) ∙ is)
      | else-i-len-via-else-i-len w ↦ λ d more is. absurd (omega (arith, w.if-i-len.false, more, c.len.ensures, c.args.ranges.now.ok.0))
    ] in
    placed_end c.args.at i rs c.requires.apart c.requires.before lt r c.index_mut-2.ensures.value ends none
