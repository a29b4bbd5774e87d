use Rattle.rom_map.proofs.sums.map_total.Goals as goal

pub returns-clause-total : goal.returns-clause-total
returns-clause-total g c s k held = c.map_sum.ensures.sum s k held
