use Rattle.std.proofs.Common.{◌≡◌, ℕ, length, map, take}
use Rattle.std.specs.Option.{unwrap_or}
use Rattle.rom_model.specs.Region.{Contents}
use Rattle.rom_model.specs.State.{State, value_of}
use Rattle.rom_model.specs.VecSpace.{words_of_space}
use Rattle.rom_text.specs.Phrases.{NumbersFit}
use Rattle.rom_rebuild.proofs.elements.values.values_of.Given as goal

-- the values of the keys so far
abbrev pub invariant-loop-key : goal.invariant-loop-key
invariant-loop-key l = record {
  image : words_of_space l.space ≡ words_of_space l.fn.space;
  so_far : (s : State) (k : ℕ) → Contents l.order (words_of_space l.fn.space) s k → l.values.items ≡ map (λ key. unwrap_or (value_of s key) 0) (take l.key-index l.keys);
  many : length l.values.items ≡ l.key-index;
  fit : NumbersFit l.values.items;
}
