use Rattle.std.proofs.Common.{◌∙◌, sym, subst}
use Rattle.rom_run.specs.Statuses.{exit_number}
use Rattle.rom_store.specs.Callers.{IsNewCaller}
use Rattle.rom_store.specs.Indexed.{Indexed}
use Rattle.rom_text.specs.Text.{texts_of}
use Rattle.rom_talk.specs.Sessions.{AreTalks}
use Rattle.rom_talk.proofs.Talked.{all_ready}
use Rattle.rom_talk.proofs.running.talk_started.Goals as goal

pub talk_seated-requires-clause-ready : goal.talk_seated-requires-clause-ready
talk_seated-requires-clause-ready g c κs within = let o = g.O.Object in
    all_ready o.machine o.Contents g.N.Label.table g.N.Label.base g.P.Peer.shown (texts_of g.T.PrintReplies.shown g.O.Answer.Print.shown) g.L.Lines.Reads
    c.args.passes.items c.args.peers.items c.seat_all.new.talkers.items c.requires.opened c.seat_all.ensures.callers c.seat_all.ensures.met c.seat_all.ensures.unnoted c.requires.callers c.requires.fresh

pub talk_seated-requires-clause-callers : goal.talk_seated-requires-clause-callers
talk_seated-requires-clause-callers g c κs within = subst (Indexed (IsNewCaller g.O.Object.Contents g.N.Label.table g.N.Label.base)) (sym c.seat_all.ensures.callers) c.requires.callers

pub talk_seated-requires-clause-many : goal.talk_seated-requires-clause-many
talk_seated-requires-clause-many g c κs within = c.seat_all.ensures.many ∙ (c.requires.many.0 ∙ c.requires.many.1)

pub returns-clause-talks : goal.returns-clause-talks
returns-clause-talks g c = let o = g.O.Object in let told = c.talk_seated.result in
    subst (λ ps. AreTalks o.machine o.Contents g.D.Device.shown g.P.Peer.shown (texts_of g.T.PrintReplies.shown g.O.Answer.Print.shown) g.L.Lines.Reads ps told.peers.items (exit_number told.status) told.closed)
    c.seat_all.ensures.met c.talk_seated.ensures.talks
