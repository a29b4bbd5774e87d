use Rattle.rom_order_region.proofs.OneBreak.{rejects_once}
use Rattle.rom_order_region.proofs.Breaking.{refused}
use Rattle.rom_order_region.proofs.inspection.inspect_order.Goals as goal

pub returns-clause-refused : goal.returns-clause-refused
returns-clause-refused c = refused c.args.region.now c.requires.order

pub returns-clause-one : goal.returns-clause-one
returns-clause-one c = rejects_once c.args.order c.args.region.now
