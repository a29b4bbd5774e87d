use Rattle.std.proofs.Common.{rules}
use Rattle.rom_blob_region.proofs.Reasons.{rejects_none, rejects_once}
use Rattle.rom_blob_region.proofs.inspect.inspection.inspect_blobs.Goals as goal

pub returns-clause-refused : goal.returns-clause-refused
returns-clause-refused c = rejects_none c.args.order c.args.region.now c.requires.order.least (search rules)

pub returns-clause-one : goal.returns-clause-one
returns-clause-one c = rejects_once c.args.order c.args.region.now c.requires.order.least
