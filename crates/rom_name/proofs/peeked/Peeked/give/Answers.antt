use Rattle.std.proofs.Common.{rules}
use Rattle.rom_name.proofs.Peeking.{given}
use Rattle.rom_name.proofs.peeked.Peeked.give.Goals as goal

pub returns-clause-bytes : goal.returns-clause-bytes
returns-clause-bytes g c = given c.args.self.now.held c.copy_from_slice.new.self _ c.args.self.now.at c.args.self.now.len c.min-count.result (search rules) (search rules)
