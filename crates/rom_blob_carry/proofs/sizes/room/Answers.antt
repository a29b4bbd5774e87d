use Rattle.std.proofs.Common.{arith}
use Rattle.rom_model.proofs.Members.{quarter_pow}
use Rattle.rom_model.proofs.Nodes.{pow_small}
use Rattle.rom_blob_carry.proofs.sizes.room.Goals as goal

pub returns-clause-few : goal.returns-clause-few
returns-clause-few c = omega (arith, c.power_of_two.ensures.is, quarter_pow c.args.order c.requires.order.least, pow_small c.args.order c.requires.order.most)
