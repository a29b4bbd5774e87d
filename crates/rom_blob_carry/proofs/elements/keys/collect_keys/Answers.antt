use Rattle.rom_blob_carry.proofs.Fits.{fit_permuted}
use Rattle.rom_blob_carry.proofs.Regions.{sorted_keys}
use Rattle.rom_blob_carry.proofs.elements.keys.collect_keys.Goals as goal

pub returns-clause-keys : goal.returns-clause-keys
returns-clause-keys c s k held =
    sorted_keys held.1 c.collect_buckets.new.into.items c.sort_unstable.new.self.items (c.in_ok-collect_buckets.ensures.collected held.0 s k held.1) c.sort_unstable.ensures.permutation c.sort_unstable.ensures.sorted

pub returns-clause-fit : goal.returns-clause-fit
returns-clause-fit c = fit_permuted c.collect_buckets.new.into.items c.sort_unstable.new.self.items c.sort_unstable.ensures.permutation c.collect_buckets.ensures.fit
