use Rattle.std.proofs.Common.{ℕ, ◌-◌, ◌++◌, length, take}
use Rattle.rom_model.specs.Region.{Contents}
use Rattle.rom_model.specs.State.{State}
use Rattle.rom_model.specs.VecSpace.{words_of_space}
use Rattle.rom_queue.specs.Queue.{with_queue}
use Rattle.rom_rebuild.specs.Filling.{HasRoomFor}
use Rattle.rom_rebuild.proofs.grow.fill.push_values.Given as goal

-- the values so far are in the queue, and there is room for the others
abbrev pub invariant-loop-value : goal.invariant-loop-value
invariant-loop-value l = record {
  room : HasRoomFor l.order (words_of_space l.space) (length l.values - l.value-index);
  filled : (s : State) (k : ℕ) → Contents l.order (words_of_space l.fn.space) s k → Contents l.order (words_of_space l.space) (with_queue s (s.queue ++ take l.value-index l.values)) k;
}
