use Rattle.std.proofs.Common.{◌≡◌, arith}
use Rattle.rom_model.specs.History.{LAST_COUNT}
use Rattle.rom_text.specs.Text.{texts_of}
use Rattle.rom_talk.proofs.Going.{begins, has_served, served_all, talks_on, told_of_few}
use Rattle.rom_talk.proofs.converse.attend.Goals as goal

pub loop-init : goal.loop-init
loop-init g c =
    let t = c.args.talker.now in
    begins g.O.Object.machine g.O.Object.Contents g.N.Label.table g.N.Label.base g.P.Peer.shown (texts_of g.T.PrintReplies.shown g.O.Answer.Print.shown) g.L.Lines.Reads
    t.pass c.new.result t.peer t.unread t.faulted c.requires.ready c.new.ensures c.requires.quiet.0 c.requires.quiet.1

pub converse-requires-clause-of : goal.converse-requires-clause-of
converse-requires-clause-of g c = c.loop.invariant.of

pub converse-requires-clause-few : goal.converse-requires-clause-few
converse-requires-clause-few g c =
    let t = c.loop.talker in
    let opened = c.requires.opened in
    omega (
      arith,
      c.loop-test.true,
      told_of_few g.O.Object.machine g.O.Object.Contents g.N.Label.table g.N.Label.base g.P.Peer.shown (texts_of g.T.PrintReplies.shown g.O.Answer.Print.shown) g.L.Lines.Reads
          c.args.talker.now.pass t.pass c.loop.desk.ear c.args.talker.now.peer t.peer t.unread t.faulted c.loop.counter opened.0 opened.1 opened.2 c.loop.invariant,
    )

pub loop-preserved : goal.loop-preserved
loop-preserved g c =
    let first = c.args.talker.now in
    let was = c.loop.talker in
    let now = c.converse.new.talker in
    let h = c.loop.invariant in
    talks_on g.O.Object.machine g.O.Object.Contents g.N.Label.table g.N.Label.base g.P.Peer.shown (texts_of g.T.PrintReplies.shown g.O.Answer.Print.shown) g.L.Lines.Reads
    first.pass was.pass now.pass c.loop.desk.ear c.converse.new.desk.ear first.peer was.peer now.peer was.unread was.faulted now.unread now.faulted c.loop.counter h
    c.converse.ensures.of c.converse.ensures.number (c.in_default.ensures.on h.lines h.steps h.results h.on)

pub returns-in-Some : goal.returns-in-Some
returns-in-Some g c =
    let first = c.args.talker.now in
    let was = c.loop.talker in
    let now = c.converse.new.talker in
    let h = c.loop.invariant in
    record {
      served = has_served g.O.Object.machine g.O.Object.Contents g.N.Label.table g.N.Label.base g.P.Peer.shown (texts_of g.T.PrintReplies.shown g.O.Answer.Print.shown) g.L.Lines.Reads
          first.pass was.pass now.pass c.loop.desk.ear c.converse.new.desk.ear first.peer was.peer now.peer was.unread was.faulted now.unread now.faulted c.loop.counter h
          c.converse.ensures.of c.converse.ensures.number c.in-Some.ending c.loop-test.true (c.in-Some.ensures.on h.lines h.steps h.results h.on);
    }

pub returns : goal.returns
returns g c =
    let first = c.args.talker.now in
    let now = c.loop.talker in
    let all : c.loop.counter ≡ LAST_COUNT = omega (arith, c.loop-test.false, c.loop.auto.counter-end) in
    record {
      served = served_all g.O.Object.machine g.O.Object.Contents g.N.Label.table g.N.Label.base g.P.Peer.shown (texts_of g.T.PrintReplies.shown g.O.Answer.Print.shown) g.L.Lines.Reads
          first.pass now.pass c.loop.desk.ear first.peer now.peer now.unread now.faulted c.loop.counter all c.loop.invariant;
    }
