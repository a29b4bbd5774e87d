use Rattle.std.proofs.Common.{inl}
use Rattle.rom_model.specs.Region.{Contents}
use Rattle.rom_model.specs.Trio.{trio}
use Rattle.rom_run.proofs.Lasting.{lasting}
use Rattle.rom_replica.proofs.Closed.{follower_lasts}
use Rattle.rom_tail.proofs.Completing.{completes, named, refuses}
use Rattle.rom_tail.proofs.program.tail.Goals as goal

-- five of the promises follow from the others
pub returns : goal.returns
returns g c =
    let is = c.follow_stream.ensures in
    let ended = c.follow_stream.result in
    let shown = g.D.Device.shown in
    let source = g.S.Source.shown in
    let sink = g.O.Sink.shown in
    let was = c.args.device in
    let w = g.world in
    let only_now = (g.met.D.Device w.𝓛 w.𝓜 w.𝓡 ((λ s x. x), (λ x. x), (λ x. x), λ x. x)).only_now in
    record {
      promise = record {
        statuses = is.statuses;
        taken = is.taken;
        not_taken = is.not_taken;
        complete = λ tells can none. completes shown source sink was ended.device c.args.inputs.items ended.scripts.items c.args.out.now c.follow_stream.new.out ended.status ended.session is.story is.none tells is.statuses is.taken is.not_taken is.sink_failed can none;
        refused_so = λ tells three. named shown source sink was ended.device c.args.inputs.items ended.scripts.items c.args.out.now c.follow_stream.new.out ended.status ended.session is.story is.none tells (is.not_taken (inl three)) three;
        refused = λ tells. refuses shown source sink was ended.device c.args.inputs.items ended.scripts.items c.args.out.now c.follow_stream.new.out ended.status ended.session is.story is.none tells is.statuses is.taken;
        story = is.story;
        lasting = lasting trio Contents shown ended.device only_now ended.session;
        told_lasts = follower_lasts shown ended.device only_now was _ ended.session is.story;
        none = is.none;
        unread = is.unread;
        kept = is.kept;
        many = is.many;
        asked_once = is.asked_once;
        sink_failed = is.sink_failed;
        writing = is.writing;
        rest = is.rest;
      };
    }
