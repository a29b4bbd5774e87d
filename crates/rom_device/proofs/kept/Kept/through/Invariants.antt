use Rattle.std.proofs.Common.{◌≡◌, reverse, take}
use Rattle.rom_device.specs.Kept.{IsKeptWord}
use Rattle.rom_device.proofs.kept.Kept.through.Given as goal

abbrev pub invariant-loop-call : goal.invariant-loop-call
invariant-loop-call l = record {
  at : l.word.at ≡ l.at;
  kept : IsKeptWord l.older l.start (reverse (take l.call-index l.made)) l.word;
}
