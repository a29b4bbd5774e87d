use Rattle.rom_hear.proofs.Saying.{said_bytes_by, said_by}
use Rattle.rom_hear.proofs.mouth.MouthSink.write.Goals as goal

pub invariant_of-self : goal.invariant_of-self
invariant_of-self g c = record { only_said = said_by _ _ _ _ c.say.result c.args.piece.now c.args.self.now.only_said c.say.ensures.says.log }

pub returns-clause-bytes : goal.returns-clause-bytes
returns-clause-bytes g c = said_bytes_by _ _ _ c.say.result c.args.piece.now c.say.ensures.says.log
