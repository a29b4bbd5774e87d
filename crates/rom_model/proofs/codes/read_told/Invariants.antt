use Rattle.std.proofs.Common.{◌≡◌, ◌-◌, ◌≤◌, length, drop}
use Rattle.rom_model.specs.Codes as codes
use Rattle.rom_model.proofs.Reading.{prepend}
use Rattle.rom_model.proofs.codes.read_told.Given as goal

-- the replies so far, and those that the words behind them stand for, are those of all words
abbrev pub invariant-loop-read : goal.invariant-loop-read
invariant-loop-read l = record {
  so_far : codes.read_all codes.read_single_reply l.many l.words ≡ prepend l.replies (codes.read_all codes.read_single_reply (l.many - l._read) (drop l.at l.words));
  within : l.at ≤ length l.words;
  replies : length l.replies ≡ l._read;
  most : l.many ≤ 8;
}
