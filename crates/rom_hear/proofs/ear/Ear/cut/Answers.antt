use Rattle.rom_hear.proofs.Hearing.{waits_behind}
use Rattle.rom_hear.proofs.ear.Ear.cut.Goals as goal

pub returns-then-self-clause-waiting : goal.returns-then-self-clause-waiting
returns-then-self-clause-waiting c = waits_behind c.args.self.now.bytes c.args.self.now.start c.args.self.now.end c.args.past

pub returns-else-self-clause-waiting : goal.returns-else-self-clause-waiting
returns-else-self-clause-waiting c = waits_behind c.args.self.now.bytes c.args.self.now.start c.args.self.now.end c.args.past
