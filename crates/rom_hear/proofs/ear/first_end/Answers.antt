use Rattle.rom_hear.proofs.Pieces.{first_end}
use Rattle.rom_hear.proofs.ear.first_end.Goals as goal

pub returns-clause-some : goal.returns-clause-some
returns-clause-some c = (first_end c.args.bytes.now c.memchr.result c.memchr.ensures).0

pub returns-clause-none : goal.returns-clause-none
returns-clause-none c = (first_end c.args.bytes.now c.memchr.result c.memchr.ensures).1
