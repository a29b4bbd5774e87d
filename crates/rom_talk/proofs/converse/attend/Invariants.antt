use Rattle.rom_text.specs.Text.{texts_of}
use Rattle.rom_talk.proofs.Going.{HasBeenTalking}
use Rattle.rom_talk.proofs.converse.attend.Given as goal

-- in each round so far one line was done and told
abbrev pub invariant-loop : goal.invariant-loop
invariant-loop g l = HasBeenTalking g.O.Object.machine g.O.Object.Contents g.N.Label.table g.N.Label.base g.P.Peer.shown (texts_of g.T.PrintReplies.shown g.O.Answer.Print.shown) g.L.Lines.Reads
    l.fn.talker.pass l.talker.pass l.desk.ear l.fn.talker.peer l.talker.peer l.talker.unread l.talker.faulted l.counter
