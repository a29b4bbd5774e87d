use Rattle.std.proofs.Common.{take}
use Rattle.rom_model.specs.VecSpace.{words_of_space}
use Rattle.rom_order_carry.specs.Entries.{Holds}
use Rattle.rom_order_carry.proofs.grow.put_all.Given as goal

-- the entries so far are put in
abbrev pub invariant-loop-entry : goal.invariant-loop-entry
invariant-loop-entry l = Holds l.order (words_of_space l.space) (take l.entry-index l.entries) l.entry-index
