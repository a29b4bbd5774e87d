use Rattle.rom_heap.proofs.Reasons.{rejects_none, rejects_once}
use Rattle.rom_heap.proofs.inspect.inspection.inspect.Goals as goal

pub returns-clause-refused : goal.returns-clause-refused
returns-clause-refused c = rejects_none c.args.order c.args.region.now

pub returns-clause-one : goal.returns-clause-one
returns-clause-one c = rejects_once c.args.order c.args.region.now
