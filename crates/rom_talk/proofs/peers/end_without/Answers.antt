use Rattle.rom_run.proofs.Told.{writing_told}
use Rattle.rom_run.specs.Refusing.{refusal_line}
use Rattle.rom_talk.proofs.peers.end_without.Goals as goal

pub returns-clause-writing : goal.returns-clause-writing
returns-clause-writing g c = writing_told g.K.Sink.shown c.args.out.now c.tell_refusal.new.out (refusal_line c.args.kind c.args.why) c.tell_refusal.ensures.told
