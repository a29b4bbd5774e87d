use Rattle.std.proofs.Common.{◌≡◌, ℕ}
use Rattle.std.specs.FinMap as map
use Rattle.rom_model.specs.VecSpace.{words_of_space}
use Rattle.rom_order_region.specs.Region.{IndexContents}
use Rattle.rom_order_region.specs.State.{Pairs}
use Rattle.rom_order_carry.proofs.Rising.{IsTaken}
use Rattle.rom_order_carry.proofs.taken.entries_of.Given as goal

-- the entries so far, and where the next one is found
abbrev pub invariant-loop : goal.invariant-loop
invariant-loop l = record {
  words : words_of_space l.space ≡ words_of_space l.fn.space;
  taken : (s : Pairs) (k : ℕ) → IndexContents l.order (words_of_space l.fn.space) s k → IsTaken (map.entries s) l.counter l.low l.entries.items;
}
