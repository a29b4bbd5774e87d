use Rattle.std.proofs.Common.{◌≡◌, reverse, take}
use Rattle.rom_device.specs.Followed.{IsFollowed}
use Rattle.rom_device.proofs.followed.Followed.through.Given as goal

abbrev pub invariant-loop-call : goal.invariant-loop-call
invariant-loop-call l = record {
  at : l.word.at ≡ l.at;
  number : l.word.number ≡ l.number;
  followed : IsFollowed l.start (reverse (take l.call-index l.made)) l.word;
}
