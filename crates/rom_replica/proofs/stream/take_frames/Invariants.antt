use Rattle.std.proofs.Common.{◌-◌, List}
use Rattle.rom_frame.specs.declared.frame.Frame.{Frame}
use Rattle.rom_frame.specs.declared.stream.message.TheConstants.{MAX_STREAM}
use Rattle.rom_replica.specs.Tallied.{HasGoneOn}
use Rattle.rom_replica.proofs.stream.take_frames.Given as goal

-- each frame so far was no stop
abbrev pub invariant-loop-stop : goal.invariant-loop-stop
invariant-loop-stop g l = record {
  frames : List Frame;
  gone : HasGoneOn g.S.Source.shown frames l.fn.follower.count l.fn.stream l.stream l.follower l.tally;
}

abbrev pub decreases-loop-stop : goal.decreases-loop-stop
decreases-loop-stop g l = MAX_STREAM - l.tally.bytes
