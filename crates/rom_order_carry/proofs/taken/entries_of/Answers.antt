use Rattle.std.proofs.Common.{◌+◌, ◌<◌, ◌++◌, [], ◌∷◌, length, sym, ◌∙◌, ap, subst, arith}
use Rattle.std.specs.FinMap as map
use Rattle.std.specs.List.{AllByRecursion}
use Rattle.std.proofs.lemmas.List.{take_all}
use Rattle.rom_order_region.specs.Region.{IndexContents}
use Rattle.rom_order_region.proofs.Sorted.{rises}
use Rattle.rom_order_carry.specs.Entries.{EntryFits}
use Rattle.rom_order_carry.proofs.Rising.{IsTaken, told_next, one_taken}
use Rattle.rom_order_carry.proofs.Told.{few_keys, pair_key, pair_value}
use Rattle.rom_order_carry.proofs.taken.entries_of.Goals as goal

pub order_from-requires-clause-region : goal.order_from-requires-clause-region
order_from-requires-clause-region c =
    let r = c.requires.region in
    let at = subst (λ w. IndexContents c.args.order w r.0 r.1) (sym c.loop.invariant.words) r.2 in
    record { tree = at.0; state = r.0; count = r.1; region = at.1 }

pub unreachable-requires : goal.unreachable-requires
unreachable-requires c =
    let r = c.requires.region in
    let at = subst (λ w. IndexContents c.args.order w r.0 r.1) (sym c.loop.invariant.words) r.2 in
    let es = map.entries r.0 in
    let lt : c.loop.counter < length es = omega (arith, c.loop-test.true, c.totals_of-keys.ensures.keys r.0 r.1 r.2, map.len-entries r.0) in
    c.in_default.not-Pair _ _ (c.order_from.ensures.told r.0 r.1 at ∙ told_next es c.loop.counter c.loop.low c.loop.entries.items (0, 0) lt (c.loop.invariant.taken r.0 r.1 r.2))

pub returns-in_err-push-clause-words : goal.returns-in_err-push-clause-words
returns-in_err-push-clause-words c =
    let r = c.requires.region in
    let same = c.loop.invariant.words in
    (c.order_from.ensures.looks r.0 r.1 (subst (λ w. IndexContents c.args.order w r.0 r.1) (sym same) r.2)).image ∙ same

pub loop-preserved : goal.loop-preserved
loop-preserved c =
    let n = c.args.order in
    let r = c.requires.region in
    let same = c.loop.invariant.words in
    let i = c.loop.counter in
    record {
      words = (c.order_from.ensures.looks r.0 r.1 (subst (λ w. IndexContents n w r.0 r.1) (sym same) r.2)).image ∙ same;
      taken = λ s k held.
          let es = map.entries s in
          let at = subst (λ w. IndexContents n w s k) (sym same) held in
          let is = c.loop.invariant.taken s k held in
          let lt : i < length es = omega (arith, c.loop-test.true, c.totals_of-keys.ensures.keys s k held, map.len-entries s) in
          let told = c.in-Pair.ensures.told s k at ∙ told_next es i c.loop.low c.loop.entries.items (0, 0) lt is in
          let fit = c.know_entries.ensures.fit n s k (subst (λ w. IndexContents n w s k) (sym c.words.ensures) held) in
          let next = one_taken es i c.loop.low c.in-Pair.key c.in-Pair.value c.loop.entries.items (0, 0) (rises s) fit lt is (pair_key told) (pair_value told) in
          subst (λ xs. IsTaken es (i + 1) c.saturating_add-low.result xs) (sym c.in_ok-push.ensures.items) (subst (λ m. IsTaken es (i + 1) m (c.loop.entries.items ++ (c.in-Pair.key, c.in-Pair.value) ∷ [])) (sym c.saturating_add-low.ensures) next);
    }

pub returns-clause-entries : goal.returns-clause-entries
returns-clause-entries c s k held =
    (c.loop.invariant.taken s k held).taken_are
    ∙ take_all c.loop.counter (map.entries s) (omega (arith, c.loop-test.false, c.loop.auto.counter-end, c.totals_of-keys.ensures.keys s k held, map.len-entries s))

pub returns-clause-fit : goal.returns-clause-fit
returns-clause-fit c =
    let r = c.requires.region in
    let es = (c.loop.invariant.taken r.0 r.1 r.2).taken_are
    ∙ take_all c.loop.counter (map.entries r.0) (omega (arith, c.loop-test.false, c.loop.auto.counter-end, c.totals_of-keys.ensures.keys r.0 r.1 r.2, map.len-entries r.0)) in
    subst (λ xs. AllByRecursion EntryFits xs) (sym es) (c.know_entries.ensures.fit c.args.order r.0 r.1 (subst (λ w. IndexContents c.args.order w r.0 r.1) (sym c.words.ensures) r.2))

pub returns-clause-few : goal.returns-clause-few
returns-clause-few c =
    let r = c.requires.region in
    let es = (c.loop.invariant.taken r.0 r.1 r.2).taken_are
    ∙ take_all c.loop.counter (map.entries r.0) (omega (arith, c.loop-test.false, c.loop.auto.counter-end, c.totals_of-keys.ensures.keys r.0 r.1 r.2, map.len-entries r.0)) in
    omega (arith, ap (λ xs. length xs) es, map.len-entries r.0, few_keys r.2.1)
