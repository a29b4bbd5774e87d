use Rattle.std.proofs.Common.{◌≡◌, ◌++◌, length}
use Rattle.std.specs.List.{AllByRecursion}
use Rattle.rom_frame.specs.Frames.{IsOfWords}
use Rattle.rom_replica.specs.Turns.{bytes_of_all}
use Rattle.rom_tail.specs.Waiting.{waits_in}
use Rattle.rom_tail.proofs.intake.Intake.cut.Given as goal

-- a frame was taken in each round so far
abbrev pub invariant-loop-i : goal.invariant-loop-i
invariant-loop-i l = record {
  many : length l.frames.items ≡ l._i;
  taken : waits_in l.fn.self ≡ bytes_of_all l.frames.items ++ waits_in l.self;
  of_words : AllByRecursion IsOfWords l.frames.items;
}
