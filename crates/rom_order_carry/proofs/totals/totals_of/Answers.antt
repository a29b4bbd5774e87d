use Rattle.std.proofs.Common.{◌≡◌, length, sym, ◌∙◌, ap, subst, arith}
use Rattle.std.specs.FinMap as map
use Rattle.rom_order_region.specs.Query.{total}
use Rattle.rom_order_region.specs.Region.{IndexContents}
use Rattle.rom_order_carry.proofs.Fits.{inside_all}
use Rattle.rom_order_carry.proofs.Told.{few_keys, range_count, range_sum}
use Rattle.rom_order_carry.proofs.totals.totals_of.Goals as goal

pub unreachable-requires : goal.unreachable-requires
unreachable-requires c =
    let r = c.requires.region in
    c.in_default.not-Range _ _ (c.order_range.ensures.told r.0 r.1 r.2)

pub returns-clause-keys : goal.returns-clause-keys
returns-clause-keys c s k held =
    let n = c.args.order in
    let fit = c.know_entries.ensures.fit n s k (subst (λ w. IndexContents n w s k) (sym c.words.ensures) held) in
    range_count (c.in-Range.ensures.told s k held) ∙ ap (λ es. length es) (inside_all (map.entries s) fit) ∙ sym (map.len-entries s)

pub returns-clause-total : goal.returns-clause-total
returns-clause-total c s k held =
    let n = c.args.order in
    let fit = c.know_entries.ensures.fit n s k (subst (λ w. IndexContents n w s k) (sym c.words.ensures) held) in
    range_sum (c.in-Range.ensures.told s k held) ∙ ap (λ es. total es) (inside_all (map.entries s) fit)

pub returns-clause-room : goal.returns-clause-room
returns-clause-room c =
    let n = c.args.order in
    let r = c.requires.region in
    let fit = c.know_entries.ensures.fit n r.0 r.1 (subst (λ w. IndexContents n w r.0 r.1) (sym c.words.ensures) r.2) in
    let keys : c.in-Range.count ≡ map.len r.0 = range_count (c.in-Range.ensures.told r.0 r.1 r.2) ∙ ap (λ es. length es) (inside_all (map.entries r.0) fit) ∙ sym (map.len-entries r.0) in
    omega (arith, keys, few_keys r.2.1)

pub returns-clause-words : goal.returns-clause-words
returns-clause-words c =
    let r = c.requires.region in
    (c.in-Range.ensures.looks r.0 r.1 r.2).image
