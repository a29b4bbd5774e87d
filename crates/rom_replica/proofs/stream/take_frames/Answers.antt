use Rattle.std.proofs.Common.{length, [], ◌∷◌, ◌++◌, ap, arith}
use Rattle.rom_frame.proofs.Coded.{length-frame}
use Rattle.rom_replica.specs.Turns.{applied}
use Rattle.rom_replica.proofs.Hearing.{followed_up_to}
use Rattle.rom_replica.proofs.Turning.{gone_on, length-tries}
use Rattle.rom_replica.proofs.stream.take_frames.Goals as goal

pub take_one-requires-clause-tried : goal.take_one-requires-clause-tried
take_one-requires-clause-tried g c =
    let so = c.loop-stop.invariant.gone in
    omega (arith, ap length so.tried, length-tries 0 (applied c.args.follower.now.count c.loop-stop.invariant.frames), so.count_is)

pub returns-in-Some : goal.returns-in-Some
returns-in-Some g c = record {
  followed = followed_up_to g.S.Source.shown c.args.follower.now.count c.args.stream.now c.loop-stop.stream c.take_one.new.stream c.loop-stop.invariant.frames c.loop-stop.follower c.take_one.new.follower c.loop-stop.tally c.take_one.new.tally
      c.in-Some.stop c.loop-stop.invariant.gone c.in-Some.ensures.turn;
}

pub loop-stop-smaller : goal.loop-stop-smaller
loop-stop-smaller g c =
    let goes = c.in_default.ensures.turn in
    let long = length-frame goes.next in
    let within = c.take_one.new.tally.within in
    omega (arith, goes.counts.bytes_is, long, within)

pub loop-stop-preserved : goal.loop-stop-preserved
loop-stop-preserved g c =
    let goes = c.in_default.ensures.turn in
    let so = c.loop-stop.invariant in
    record {
      frames = so.frames ++ goes.next ∷ [];
      gone = gone_on g.S.Source.shown c.args.follower.now.count c.args.stream.now c.loop-stop.stream c.take_one.new.stream so.frames c.loop-stop.follower c.take_one.new.follower c.loop-stop.tally c.take_one.new.tally so.gone goes;
    }
