use Rattle.std.proofs.Common.{◌≡◌, length}
use Rattle.rom_steady.specs.Watched.{IsLater}
use Rattle.rom_steady.proofs.steady.read_image.Given as goal

-- each try only read
abbrev pub invariant-loop : goal.invariant-loop
invariant-loop g l = record {
  as_long : length l.image ≡ length l.fn.image;
  later : IsLater g.W.Watched.shown l.fn.words l.words;
  faults : g.W.Watched.shown.faults l.words ≡ g.W.Watched.shown.faults l.fn.words;
}
