use Rattle.std.proofs.Common.{ℕ, List, arith, rules, subst, sym}
use Rattle.rom_model.specs.VecSpace.{words_of_space}
use Rattle.rom_block.specs.Taken.{IsTakenAt}
use Rattle.rom_units.proofs.block.a_full_region_and_two_blocks_given_back.Goals as goal

-- the unit through the calls up to its return
pub give-requires-clause-taken : goal.give-requires-clause-taken
give-requires-clause-taken g c =
    let unit = c.expect-unit.result in
    let first : IsTakenAt 4 0 unit (words_of_space c.take-2.new.space) = search rules in
    let kept = c.take-6.ensures.kept 0 unit (c.take-5.ensures.kept 0 unit (c.take-4.ensures.kept 0 unit (c.take-3.ensures.kept 0 unit first))) in
    subst (λ (w : List ℕ). IsTakenAt 4 0 unit w) (sym c.largest_free.ensures.looks.image) kept

-- the two units too; the unit is a block of another order
pub give-requires-2-clause-taken : goal.give-requires-2-clause-taken
give-requires-2-clause-taken g c =
    let pair = c.expect-pair.result in
    let first : IsTakenAt 4 1 pair (words_of_space c.take-3.new.space) = search rules in
    let full = c.take-6.ensures.kept 1 pair (c.take-5.ensures.kept 1 pair (c.take-4.ensures.kept 1 pair first)) in
    let before = subst (λ (w : List ℕ). IsTakenAt 4 1 pair w) (sym c.largest_free.ensures.looks.image) full in
    let kept = c.give.ensures.kept 1 pair (omega arith) (λ same. absurd (omega (arith, same))) before in
    subst (λ (w : List ℕ). IsTakenAt 4 1 pair w) (sym c.largest_free-2.ensures.looks.image) kept
