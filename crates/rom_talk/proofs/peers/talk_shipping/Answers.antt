use Rattle.std.proofs.Common.{refl, subst}
use Rattle.rom_run.specs.Refusing.{refusal_line, refusal_status}
use Rattle.rom_run.specs.Statuses.{exit_number}
use Rattle.rom_rule.specs.Views.{base_of}
use Rattle.rom_text.specs.Runs.{IsLineWrittenOrCutShort}
use Rattle.rom_text.specs.Text.{texts_of}
use Rattle.rom_talk.proofs.TopPromise.{promise_refused, promise_talked, promise_unmet}
use Rattle.rom_talk.proofs.TopShipping.{stories_shipped}
use Rattle.rom_talk.proofs.peers.talk_shipping.Goals as goal

pub returns-in_default : goal.returns-in_default
returns-in_default g c =
    let o = g.O.Object in
    let ended = c.end_without.ensures in
    rw (ended.ended, ended.shipper) record {
      promise = record {
        told = 6;
        talk = promise_unmet o.machine o.Contents o.KIND o.Rejects o.earlier g.D.Device.shown g.P.Peer.shown g.K.Sink.shown (texts_of g.T.PrintReplies.shown g.O.Answer.Print.shown) g.L.Lines.Reads
            c.args.device c.args.peers.items c.args.out.now c.end_without.new.out ended.told ended.writing ended.rest;
        status_is = refl;
        shipped = tt;
        unshipped = λ none. refl;
      };
    }

pub returns-in-Ok-open_store : goal.returns-in-Ok-open_store
returns-in-Ok-open_store g c =
    let o = g.O.Object in
    let w = g.world in
    let laws = g.met.O.Object w.𝓛 w.𝓜 w.𝓡 ((λ s x. x), (λ x. x), (λ x. x), λ x. x) in
    let only_now = (g.met.D.Device w.𝓛 w.𝓜 w.𝓡 ((λ s x. x), (λ x. x), (λ x. x), λ x. x)).only_now in
    let talked = c.talk_on-peers.result in
    let talks = c.talk_on-peers.ensures.talked in
    rw (c.end_as.ensures.ended, c.end_as.ensures.shipper, c.parts-device.ensures.device, c.parts-device.ensures.session) record {
      promise = record {
        told = exit_number talked.status;
        talk = promise_talked o.machine o.Contents o.KIND o.Rejects o.earlier g.D.Device.shown g.P.Peer.shown g.K.Sink.shown (texts_of g.T.PrintReplies.shown g.O.Answer.Print.shown) g.L.Lines.Reads
            (λ order words s k held. (laws.contents_within order words s k held).2) only_now
            c.args.device c.in-Ok-open_store.opening c.args.peers.items talked.peers.items (exit_number talked.status) talked.closed c.in-Ok-open_store.ensures.opened talks c.args.out.now;
        status_is = refl;
        shipped = stories_shipped o.machine o.Contents g.W.Shipper.shown (base_of c.in-Ok-open_store.opening.key) talked.closed.session c.args.shipper talked.shipper
            talks.played.order talks.played.image c.talk_on-peers.ensures.shipped;
        unshipped = λ none. absurd (let no : ⊥ = cc in no);
      };
    }

pub returns-in-Err : goal.returns-in-Err
returns-in-Err g c =
    let o = g.O.Object in
    let ended = c.end_without-in-Err.ensures in
    let left = c.in-Err.refused in
    rw (ended.ended, ended.shipper) record {
      promise = record {
        told = exit_number (refusal_status left.why);
        talk = promise_refused o.machine o.Contents o.KIND o.Rejects o.earlier g.D.Device.shown g.P.Peer.shown g.K.Sink.shown (texts_of g.T.PrintReplies.shown g.O.Answer.Print.shown) g.L.Lines.Reads
            c.args.device left.device c.args.peers.items c.args.out.now c.end_without-in-Err.new.out left.why c.in-Err.ensures.refused
            (subst (λ kind. IsLineWrittenOrCutShort g.K.Sink.shown c.args.out.now c.end_without-in-Err.new.out (refusal_line kind left.why)) c.KIND-in-Err.ensures ended.told) ended.writing ended.rest;
        status_is = refl;
        shipped = tt;
        unshipped = λ none. refl;
      };
    }
