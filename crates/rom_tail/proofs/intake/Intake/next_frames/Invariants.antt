use Rattle.std.proofs.Common.{◌≡◌, ◌-◌, List, ℕ, [], ◌++◌, length}
use Rattle.std.specs.Io.KnownBytes.{Consumes}
use Rattle.rom_frame.specs.Messages.{GaveOn}
use Rattle.rom_tail.specs.declared.intake.TheConstants.{ROOM}
use Rattle.rom_tail.specs.Waiting.{waits_in}
use Rattle.rom_tail.proofs.intake.Intake.next_frames.Given as goal

-- each read so far has given a byte or more
abbrev pub invariant-loop-broken : goal.invariant-loop-broken
invariant-loop-broken g l = record {
  none : l.frames.items ≡ [];
  bytes : List ℕ;
  consumed : Consumes (g.S.Source.shown.left l.fn.stream) (g.S.Source.shown.left l.stream) bytes;
  waits : waits_in l.self ≡ waits_in l.fn.self ++ bytes;
  gave : GaveOn g.S.Source.shown l.fn.stream l.stream;
}

abbrev pub decreases-loop-broken : goal.decreases-loop-broken
decreases-loop-broken g l = ROOM - length (waits_in l.self)
