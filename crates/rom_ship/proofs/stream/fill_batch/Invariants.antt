use Rattle.std.proofs.Common.{◌≡◌, ◌*◌, ◌≤◌, take}
use Rattle.rom_combine.specs.Shipping.{text_from}
use Rattle.rom_ship.specs.Streams.{frame_text}
use Rattle.rom_ship.proofs.stream.fill_batch.Given as goal

-- the frames so far, and there is room for the others
abbrev pub invariant-loop-i : goal.invariant-loop-i
invariant-loop-i l = record {
  few : l.len ≤ l.i * 512;
  frames : take l.len l.block ≡ text_from frame_text l.batch.place (take l.i l.batch.updates);
}
