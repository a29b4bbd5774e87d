use Rattle.rom_heap.proofs.Reasons.{old_rejects_none, old_rejects_once}
use Rattle.rom_heap.proofs.inspect.inspection.inspect_old.Goals as goal

pub returns-clause-refused : goal.returns-clause-refused
returns-clause-refused c = old_rejects_none c.args.order c.args.region.now

pub returns-clause-one : goal.returns-clause-one
returns-clause-one c = old_rejects_once c.args.order c.args.region.now
