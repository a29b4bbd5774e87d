use Rattle.std.proofs.Common.{subst, sym}
use Rattle.rom_text.specs.Text.{texts_of}
use Rattle.rom_talk.specs.Promise.{TalkPromise}
use Rattle.rom_talk.proofs.peers.talk.Goals as goal

pub returns : goal.returns
returns g c =
    let o = g.O.Object in
    let promise = c.talk_shipping-ended.ensures.promise in
    let ended = c.talk_shipping-ended.result.0 in
    record {
      promise = subst (λ status. TalkPromise o.machine o.Contents o.KIND o.Rejects o.earlier g.D.Device.shown g.P.Peer.shown g.K.Sink.shown (texts_of g.T.PrintReplies.shown g.O.Answer.Print.shown) g.L.Lines.Reads
          c.args.device ended.device c.args.peers.items ended.peers.items c.args.out.now c.talk_shipping-ended.new.out status ended.session) (sym promise.status_is) promise.talk;
    }
