use Rattle.std.proofs.Common.{refl, rules, subst}
use Rattle.rom_store.specs.Openings.{HasBeenRefused}
use Rattle.rom_text.specs.Runs.{IsLineWrittenOrCutShort}
use Rattle.rom_run.specs.Refusing.{refusal_line}
use Rattle.rom_run.proofs.Sessions.{kept_made, made_session, standing_session, unrefused}
use Rattle.rom_run.proofs.Showing.{none_made, none_opened, refusal_ends, unmade_ends}
use Rattle.rom_run.proofs.play.play_heap.Goals as goal

pub returns-in-Ok-clause-session : goal.returns-in-Ok-clause-session
returns-in-Ok-clause-session g c =
    let o = g.O.Object in
    let w = g.world in
    let laws = g.met.O.Object w.𝓛 w.𝓜 w.𝓡 ((λ s x. x), (λ x. x), (λ x. x), λ x. x) in
    let played = c.in-Ok.played in
    let is = c.in-Ok.ensures.played in
    rw c.in-New.is
    (made_session g.D.Device.shown o.machine o.Contents c.args.scripts.now played.results.items c.args.device played.closed (λ order words s k held. (laws.contents_within order words s k held).2) is.faults c.in-New.order is.session is.order is.empty is.accepted is.fits)

pub returns-in-Ok-clause-kept : goal.returns-in-Ok-clause-kept
returns-in-Ok-clause-kept g c =
    let is = c.in-Ok.ensures.played in
    rw c.in-New.is
    (kept_made g.D.Device.shown c.in-New.order c.args.device c.in-Ok.played.closed.device is.size is.outside (λ told refused. absurd (unrefused c.in-New.order (g.D.Device.shown.words c.args.device) (is.accepted told) refused)))

pub returns-in-Ok-play-clause-session : goal.returns-in-Ok-play-clause-session
returns-in-Ok-play-clause-session g c =
    let o = g.O.Object in
    let w = g.world in
    let laws = g.met.O.Object w.𝓛 w.𝓜 w.𝓡 ((λ s x. x), (λ x. x), (λ x. x), λ x. x) in
    let played = c.in-Ok-play.played in
    let is = c.in-Ok-play.ensures.played in
    rw c.in-Standing.is
    (standing_session g.D.Device.shown o.machine o.Contents c.args.scripts.now played.results.items c.args.device played.closed (λ order words s k held. (laws.contents_within order words s k held).2) is.faults is.session is.held is.fits is.since)

pub returns-in-Err-clause-none : goal.returns-in-Err-clause-none
returns-in-Err-clause-none g c =
    let o = g.O.Object in
    let ended = c.end_unmade.ensures in
    let failed = c.in-Err.ensures.unmade in
    rw (c.in-New.is, ended.worked) record {
      none = none_made o.machine o.Contents g.D.Device.shown g.K.Sink.shown o.KIND o.Rejects o.earlier c.args.device c.in-Err.unmade.device c.args.out.now c.end_unmade.new.out c.in-New.order c.in-Err.unmade.why
          failed.refused failed.sizes failed.calls failed.faults failed.images failed.memory failed.within ended.told;
      kept = kept_made g.D.Device.shown c.in-New.order c.args.device c.in-Err.unmade.device failed.size failed.outside failed.spared;
      statuses = unmade_ends c.in-Err.unmade.why;
      ran = refl;
    }

pub returns-in-Err-Unopened-clause-none : goal.returns-in-Err-Unopened-clause-none
returns-in-Err-Unopened-clause-none g c =
    let o = g.O.Object in
    let ended = c.end_unopened.ensures in
    let left = c.in-Err-Unopened.refused in
    let failed : HasBeenRefused g.D.Device.shown o.Contents o.Rejects c.args.device left.device left.why = search rules in
    rw (c.in-Standing.is, ended.worked) record {
      none = none_opened o.machine o.Contents g.D.Device.shown g.K.Sink.shown o.KIND o.Rejects o.earlier c.args.device left.device c.args.out.now c.end_unopened.new.out left.why
          failed.refused failed.sizes failed.faults failed.images failed.calls failed.within (subst (λ kind. IsLineWrittenOrCutShort g.K.Sink.shown c.args.out.now c.end_unopened.new.out (refusal_line kind left.why)) c.KIND.ensures ended.told);
      kept = record { size = failed.size; outside = failed.outside; spared = tt };
      statuses = refusal_ends left.why;
      ran = refl;
    }
