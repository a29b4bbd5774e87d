use Rattle.std.proofs.Common.{◌≡◌, ◌-◌, ◌≤◌, length, take, drop}
use Rattle.rom_model.specs.Codes as codes
use Rattle.rom_model.proofs.Reading.{prepend}
use Rattle.rom_model.proofs.codes.read_members.Given as goal

-- the members so far, and those that the words behind them stand for, are those of all words
abbrev pub invariant-loop-i : goal.invariant-loop-i
invariant-loop-i l = record {
  so_far : codes.read_all codes.read_single l.many l.words ≡ prepend (take l.i l.calls) (codes.read_all codes.read_single (l.many - l.i) (drop l.at l.words));
  within : l.at ≤ length l.words;
  cells : length l.calls ≡ 8;
}
