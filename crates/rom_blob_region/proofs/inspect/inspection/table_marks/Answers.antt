use Rattle.std.proofs.Common.{◌≡◌, ◌*◌, Bool, false, List, replicate, get_or, ◌∙◌, ap, arith}
use Rattle.std.proofs.lemmas.List.{get_or-replicate}
use Rattle.rom_blob_region.proofs.Marking.{table_high, table_marked}
use Rattle.rom_blob_region.proofs.inspect.inspection.table_marks.Goals as goal

pub index_mut-requires : goal.index_mut-requires
index_mut-requires c = omega (arith, table_high c.args.order c.requires.order.least, c.in_ok-marks.ensures.len, c.power_of_two.ensures.is)

pub returns : goal.returns
returns c =
    let many = 2 * c.power_of_two.result in
    let all : c.in_ok-marks.marks.items ≡ replicate many false = c.in_ok-marks.ensures.items_if_clones_equal (λ y same. same) in
    table_marked c.args.order c.in_ok-marks.marks.items c.requires.order.least (omega (arith, c.in_ok-marks.ensures.len, c.power_of_two.ensures.is, c.in_ok-marks.marks.ok.0))
    (λ i lt. ap (λ (xs : List Bool). get_or xs i false) all ∙ get_or-replicate many i false false (omega (arith, lt, c.in_ok-marks.ensures.len, c.in_ok-marks.marks.ok.0)))
