use Rattle.rom_run.specs.Statuses.{exit_number}
use Rattle.rom_rule.specs.Views.{base_of}
use Rattle.rom_talk.proofs.TopPlayed.{talked_on}
use Rattle.rom_talk.proofs.running.talk_on.Goals as goal

pub returns : goal.returns
returns g c =
    let o = g.O.Object in
    let opening = c.args.opening in
    let talked = c.talk_as.result in
    record {
      talked = talked_on o.machine o.Contents g.D.Device.shown g.P.Peer.shown _ _ (base_of opening.key) opening.device
          c.args.peers.items talked.peers.items (exit_number talked.status) talked.closed c.talk_as.ensures.talks c.talk_as.ensures.ended;
      shipped = c.talk_as.ensures.shipped;
    }
