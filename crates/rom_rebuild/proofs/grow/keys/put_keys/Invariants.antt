use Rattle.std.proofs.Common.{◌≡◌, ℕ, ◌-◌, length, drop}
use Rattle.std.specs.Prelude.{slice_index}
use Rattle.std.specs.FinMap as finite
use Rattle.rom_map.specs.Map.{with_pairs}
use Rattle.rom_model.specs.Region.{Contents}
use Rattle.rom_model.specs.State.{State}
use Rattle.rom_model.specs.VecSpace.{words_of_space}
use Rattle.rom_rebuild.specs.Filling.{HasRoomFor}
use Rattle.rom_rebuild.proofs.grow.keys.put_keys.Given as goal

-- the last keys so far are in the map, and there is room for the others
abbrev pub invariant-loop-done : goal.invariant-loop-done
invariant-loop-done l = record {
  same : words_of_space l.from ≡ words_of_space l.fn.from;
  counts : slice_index (words_of_space l.space) 2 ≡ slice_index (words_of_space l.fn.space) 2;
  room : HasRoomFor l.greater (words_of_space l.space) (length l.keys - l.done);
  filled : (s t : State) (k : ℕ) → Contents l.order (words_of_space l.fn.from) s k → Contents l.greater (words_of_space l.fn.space) t k → l.keys ≡ finite.keys s.pairs → t.pairs ≡ finite.empty
      → Contents l.greater (words_of_space l.space) (with_pairs t (finite.from_entries (drop (length l.keys - l.done) (finite.entries s.pairs)))) k;
}
