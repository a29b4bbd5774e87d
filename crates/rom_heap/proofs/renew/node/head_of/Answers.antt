use Rattle.std.proofs.Common.{arith}
use Rattle.rom_heap.proofs.Heads.{head_within}
use Rattle.rom_heap.proofs.renew.node.head_of.Goals as goal

pub returns-clause-within : goal.returns-clause-within
returns-clause-within c = omega (arith, head_within c.args.order c.args.bucket c.requires.order.least c.requires.bucket, c.blocks_at.ensures.is)
