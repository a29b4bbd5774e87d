use Rattle.std.proofs.Common.{◌≡◌, ℕ, ◌-◌, length, drop}
use Rattle.std.specs.FinSet as set
use Rattle.rom_model.specs.Region.{Contents}
use Rattle.rom_model.specs.State.{State}
use Rattle.rom_model.specs.VecSpace.{words_of_space}
use Rattle.rom_rebuild.specs.Filling.{HasRoomFor}
use Rattle.rom_rebuild.proofs.grow.fill.insert_members.Given as goal
use Rattle.rom_set.specs.Set.{with_members}

-- the last numbers so far are in the set, and there is room for the others
abbrev pub invariant-loop-done : goal.invariant-loop-done
invariant-loop-done l = record {
  room : HasRoomFor l.order (words_of_space l.space) (length l.members - l.done);
  filled : (s : State) (k : ℕ) → Contents l.order (words_of_space l.fn.space) s k → s.members ≡ set.empty
      → Contents l.order (words_of_space l.space) (with_members s (set.from_list (drop (length l.members - l.done) l.members))) k;
}
