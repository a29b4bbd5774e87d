use Rattle.std.proofs.Common.{rules, ◌≡◌, ℕ, ◌-◌, ◌<◌, ◌≤◌, get_or, List, length, ap, true, false, ltb, arith}
use Rattle.std.proofs.lemmas.Bool.Decides.{nat_tests}
use Rattle.std.proofs.lemmas.List.{get_or_default}
use Rattle.std.proofs.lemmas.List.Sorted.{IsPartitionPoint-from_clause}
use Rattle.rom_ranges.proofs.Near.{ends_part, ends_rise, ends_before}
use Rattle.rom_ranges.specs.declared.range.Range.{Range}
use Rattle.rom_ranges.proofs.holding.first_near.Goals as goal

below : (a b : ℕ) → ltb a b ≡ true → a < b
below a b is = grind (arith, nat_tests)

not_below : (a b : ℕ) → ltb a b ≡ false → b ≤ a
not_below a b is = grind (arith, nat_tests)

pub returns-then-count-eq0-clause-before : goal.returns-then-count-eq0-clause-before
returns-then-count-eq0-clause-before c k d lt =
    let rs = c.args.ranges.now in
    let at = c.args.at in
    let point = IsPartitionPoint-from_clause (λ (r : Range). ltb r.end at) rs c.partition_point.result c.partition_point.ensures.partitioned (ends_part rs at c.requires) (λ a r f called. search rules) in
    below (get_or rs k d).end at (point.0 k d (omega arith) lt)

pub returns-then-count-eq0-clause-near : goal.returns-then-count-eq0-clause-near
returns-then-count-eq0-clause-near c d lt =
    let rs = c.args.ranges.now in
    let at = c.args.at in
    let point = IsPartitionPoint-from_clause (λ (r : Range). ltb r.end at) rs c.partition_point.result c.partition_point.ensures.partitioned (ends_part rs at c.requires) (λ a r f called. search rules) in
    not_below (get_or rs c.partition_point.result d).end at (point.1 c.partition_point.result d (omega arith) lt)

-- the range that stands for none in the code
abbrev none : Range
none = record { start = 0; end = 0 }

pub returns-then-ranges-count-clause-before : goal.returns-then-ranges-count-clause-before
returns-then-ranges-count-clause-before c k d lt =
    let rs : List Range = c.args.ranges.now in
    let last : ℕ = length rs - 1 in
    let same = ap (λ (r : Range). r.end) (get_or_default rs last none d (omega (arith, lt))) in
    omega (arith, same, ends_rise rs c.requires k last d (omega (arith, lt)) (omega (arith, lt)), c.if-ranges-count.true)

pub returns-clause-before : goal.returns-clause-before
returns-clause-before c k d lt =
    let rs : List Range = c.args.ranges.now in
    let last : ℕ = length rs - 1 in
    omega (arith, ends_before rs k last d none c.requires lt (omega (arith, lt)), c.if-at-ranges.false)
