use Rattle.std.proofs.Common.{◌≡◌, ◌+◌, ◌-◌, ◌*◌, ◌^◌, arith, ap, subst, sym, ◌∙◌}
use Rattle.std.proofs.lemmas.Nat.{pow-add}
use Rattle.rom_model.specs.Space.{ChangesOnly}
use Rattle.rom_model.specs.Blocks.{nothing, block_of}
use Rattle.rom_model.specs.Region.{buckets}
use Rattle.rom_blob_region.proofs.Emptied.{nothing_disjoint, table_taken, emptied, formatted}
use Rattle.rom_blob_region.proofs.fresh.format_blobs.Goals as goal

pub take-requires-clause-blocks : goal.take-requires-clause-blocks
take-requires-clause-blocks g c = (nothing, nothing_disjoint c.args.order, c.format.ensures.words)

pub store_zeros-requires-clause-fits : goal.store_zeros-requires-clause-fits
store_zeros-requires-clause-fits g c =
    let n = c.args.order in
    let e : 2 + (n - 2) ≡ n = omega (arith, c.requires.order.least) in
    let four : 2 ^ n ≡ 4 * 2 ^ (n - 2) = ap (λ a. 2 ^ a) (sym e) ∙ pow-add 2 2 (n - 2) in
    omega (arith, c.requires.sized, c.format_root.ensures.others.as_long, c.format.ensures.others.as_long, c.take.ensures.others.as_long, c.blocks_at.ensures.is, c.power_of_two.ensures.is, four)

pub returns-clause-made : goal.returns-clause-made
returns-clause-made g c =
    let n = c.args.order in
    let w = g.M.Look.shown.image c.args.space.now in
    let w1 = g.M.Look.shown.image c.format_root.new.space in
    let w2 = g.M.Look.shown.image c.format.new.space in
    let w3 = g.M.Look.shown.image c.take.new.space in
    let w4 = g.M.Look.shown.image c.store_zeros.new.space in
    let from : c.blocks_at.result ≡ block_of n 0 = c.blocks_at.ensures.is in
    let len : c.power_of_two.result ≡ buckets n = c.power_of_two.ensures.is in
    let z = c.store_zeros.ensures in
    let only : ChangesOnly (block_of n 0) (buckets n) w3 w4 = subst (λ a. ChangesOnly a (buckets n) w3 w4) from (subst (λ a. ChangesOnly c.blocks_at.result a w3 w4) len z.others) in
    let r = c.format_root.ensures in
    emptied n w4 (formatted n w w1 w2 w3 w4 c.requires.order c.requires.sized r.others c.format.ensures.others c.take.ensures.others only r.root c.format.ensures.zero
    (table_taken n w3 c.take.result c.requires.order.least (c.take.ensures.taken nothing (nothing_disjoint n) c.format.ensures.words))
    (λ i lt. z.zeros (block_of n 0 + i) (omega (arith, from)) (omega (arith, from, len, lt))))

pub returns-clause-free : goal.returns-clause-free
returns-clause-free g c k late =
    let n = c.args.order in
    let e : 2 + (n - 4) ≡ n - 2 = omega (arith, c.requires.order.least) in
    let four : 2 ^ (n - 2) ≡ 4 * 2 ^ (n - 4) = ap (λ a. 2 ^ a) (sym e) ∙ pow-add 2 2 (n - 4) in
    c.store_zeros.ensures.others.behind k (omega (arith, late, four, c.blocks_at.ensures.is, c.power_of_two.ensures.is))
    ∙ c.take.ensures.others.behind k (omega (arith, late)) ∙ c.format.ensures.others.behind k (omega (arith, late)) ∙ c.format_root.ensures.others.behind k (omega (arith, late))
