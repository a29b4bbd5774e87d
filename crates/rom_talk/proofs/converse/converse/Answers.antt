use Rattle.std.proofs.Common.{ℕ, List, refl, subst}
use Rattle.rom_model.specs.declared.line.Step.TheVariants as step
use Rattle.rom_text.specs.Text.{texts_of}
use Rattle.rom_talk.proofs.Going.{ends_over, ends_unheard, goes_on, heard_line, heard_long}
use Rattle.rom_talk.proofs.converse.converse.Goals as goal

pub answer-requires-clause-line : goal.answer-requires-clause-line
answer-requires-clause-line g c = (c.line_in-line.ensures.0, c.line_in-line.ensures.2)

pub answer-requires-in-Long-clause-line : goal.answer-requires-in-Long-clause-line
answer-requires-in-Long-clause-line g c = (step.Unread, refl)

pub returns-in-Line-clause-of : goal.returns-in-Line-clause-of
returns-in-Line-clause-of g c = let asks = c.line_in-line.ensures in (c.answer.ensures.answered asks.0 asks.2).took.of

pub returns-in-Line-clause-number : goal.returns-in-Line-clause-number
returns-in-Line-clause-number g c = let asks = c.line_in-line.ensures in (c.answer.ensures.answered asks.0 asks.2).took.number

pub returns-in-Line-clause-on : goal.returns-in-Line-clause-on
returns-in-Line-clause-on g c lines steps results so_far =
    let m = g.O.Object.machine in
    let peer = g.P.Peer.shown in
    let texts = texts_of g.T.PrintReplies.shown g.O.Answer.Print.shown in
    let was = c.args.talker.now in
    let now = c.answer.new.talker in
    let asks = c.line_in-line.ensures in
    let ear = c.hear.new.self in
    let reads = subst (λ (bs : List ℕ). g.L.Lines.Reads bs asks.0) c.line.ensures asks.1 in
    goes_on m g.O.Object.Contents g.N.Label.table g.N.Label.base peer texts g.L.Lines.Reads was.pass now.pass c.args.desk.now.ear ear was.peer c.hear.new.peer now.peer
    was.unread was.faulted now.unread now.faulted lines steps results _ asks.0 c.answer.result so_far
    (heard_line m g.O.Object.Contents g.N.Label.table g.N.Label.base peer texts g.L.Lines.Reads c.args.desk.now.ear ear was.peer c.hear.new.peer lines asks.0 (c.in-Line.ensures.next lines so_far.at) c.in-Line.ensures.asks reads)
    (c.answer.ensures.answered asks.0 asks.2)

pub returns-in-Long-clause-of : goal.returns-in-Long-clause-of
returns-in-Long-clause-of g c = (c.answer-in-Long.ensures.answered step.Unread refl).took.of

pub returns-in-Long-clause-number : goal.returns-in-Long-clause-number
returns-in-Long-clause-number g c = (c.answer-in-Long.ensures.answered step.Unread refl).took.number

pub returns-in-Long-clause-on : goal.returns-in-Long-clause-on
returns-in-Long-clause-on g c lines steps results so_far =
    let m = g.O.Object.machine in
    let peer = g.P.Peer.shown in
    let texts = texts_of g.T.PrintReplies.shown g.O.Answer.Print.shown in
    let was = c.args.talker.now in
    let now = c.answer-in-Long.new.talker in
    let ear = c.hear.new.self in
    let heard = heard_long m g.O.Object.Contents g.N.Label.table g.N.Label.base peer texts g.L.Lines.Reads c.args.desk.now.ear ear was.peer c.hear.new.peer lines g.met.L.ShortLines.long_unread (c.in-Long.ensures.next lines so_far.at) c.in-Long.ensures.asks in
    goes_on m g.O.Object.Contents g.N.Label.table g.N.Label.base peer texts g.L.Lines.Reads was.pass now.pass c.args.desk.now.ear ear was.peer c.hear.new.peer now.peer
    was.unread was.faulted now.unread now.faulted lines steps results heard.0 step.Unread c.answer-in-Long.result so_far heard.1 (c.answer-in-Long.ensures.answered step.Unread refl)

pub returns-in-End-clause-on : goal.returns-in-End-clause-on
returns-in-End-clause-on g c lines steps results so_far =
    ends_over g.O.Object.machine g.O.Object.Contents g.N.Label.table g.N.Label.base g.P.Peer.shown (texts_of g.T.PrintReplies.shown g.O.Answer.Print.shown) g.L.Lines.Reads
    c.args.talker.now.pass c.args.desk.now.ear c.hear.new.self c.args.talker.now.peer c.hear.new.peer c.args.talker.now.unread c.args.talker.now.faulted lines steps results so_far
    (c.in-End.ensures.next lines so_far.at) c.in-End.ensures.asks

pub returns-in-Failed-clause-on : goal.returns-in-Failed-clause-on
returns-in-Failed-clause-on g c lines steps results so_far =
    ends_unheard g.O.Object.machine g.O.Object.Contents g.N.Label.table g.N.Label.base g.P.Peer.shown (texts_of g.T.PrintReplies.shown g.O.Answer.Print.shown) g.L.Lines.Reads
    c.args.talker.now.pass c.args.desk.now.ear c.hear.new.self c.args.talker.now.peer c.hear.new.peer c.args.talker.now.unread c.args.talker.now.faulted lines steps results so_far
    (c.in-Failed.ensures.next lines so_far.at) c.in-Failed.ensures.asks
