use Rattle.rom_heap.proofs.Inspected.{never_old, old_fit}
use Rattle.rom_heap.proofs.trio.TrioRenew.inspect_old.Goals as goal

pub returns-clause-fit : goal.returns-clause-fit
returns-clause-fit c = old_fit c.args.order c.args.region.now c.inspect_old.result c.inspect_old.ensures.fit

pub returns-clause-refused : goal.returns-clause-refused
returns-clause-refused c = λ e first s k held. c.inspect_old.ensures.refused e first (record { state = s; count = k; contents = held })

pub returns-clause-never_old : goal.returns-clause-never_old
returns-clause-never_old c = never_old c.args.order c.args.region.now c.inspect_old.result c.inspect_old.ensures.reason
