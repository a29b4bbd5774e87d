use Rattle.std.proofs.Common.{arith}
use Rattle.rom_heap.proofs.Whole.{table_high}
use Rattle.rom_heap.proofs.inspect.inspection.table_marks.Goals as goal

pub index_mut-requires : goal.index_mut-requires
index_mut-requires c = omega (arith, table_high c.args.order c.requires.order.least, c.in_ok-marks.ensures.len, c.power_of_two.ensures.is)
