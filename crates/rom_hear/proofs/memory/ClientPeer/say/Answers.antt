use Rattle.rom_hear.proofs.Marks.{heard_same}
use Rattle.rom_hear.proofs.memory.ClientPeer.say.Goals as goal

pub invariant_of-self-2-clause-heard : goal.invariant_of-self-2-clause-heard
invariant_of-self-2-clause-heard g c = heard_same c.args.self.now.text.items c.args.self.now.at c.args.self.now.passed c.add.new.self _ _ c.args.self.now.heard c.add.ensures.log
