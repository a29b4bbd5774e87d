use Rattle.rom_text.specs.Text.{texts_of}
use Rattle.rom_talk.proofs.Going.{ready_still, served_still}
use Rattle.rom_talk.proofs.converse.serve.Goals as goal

pub attend-talker-requires-clause-ready : goal.attend-talker-requires-clause-ready
attend-talker-requires-clause-ready g c = ready_still g.O.Object.machine g.O.Object.Contents g.N.Label.table g.N.Label.base g.P.Peer.shown (texts_of g.T.PrintReplies.shown g.O.Answer.Print.shown) g.L.Lines.Reads
    c.args.talker.now.pass c.args.talker.now.peer c.meet.new.self c.meet.ensures.still c.requires.ready

pub returns : goal.returns
returns g c =
    let before = c.args.talker.now in
    let now = c.attend-talker.new.talker in
    record {
      served = served_still g.O.Object.machine g.O.Object.Contents g.N.Label.table g.N.Label.base g.P.Peer.shown (texts_of g.T.PrintReplies.shown g.O.Answer.Print.shown) g.L.Lines.Reads
          before.pass now.pass before.peer c.meet.new.self now.peer c.part.new.self c.attend-talker.result now.unread now.faulted c.meet.ensures.still c.part.ensures.still c.attend-talker.ensures.served;
    }
