use Rattle.std.proofs.Common.{◌≡◌, ◌+◌, ◌*◌, ◌≤◌, ◌∷◌, ◌++◌, length, drop}
use Rattle.rom_model.specs.Codes as codes
use Rattle.rom_model.proofs.codes.put_group_words.Given as goal

-- the words so far and those of the members that are left are those of the group
abbrev pub invariant-loop-single : goal.invariant-loop-single
invariant-loop-single l = record {
  so_far : l.words ++ codes.all_words codes.single_words (drop l.single-index l.single-items) ≡ 8 ∷ length l.single-items ∷ codes.all_words codes.single_words l.single-items;
  few : length l.words ≤ 2 + 4 * l.single-index;
  most : length l.single-items ≤ 8;
}
