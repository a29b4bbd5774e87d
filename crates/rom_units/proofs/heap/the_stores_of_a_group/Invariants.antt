use Rattle.rom_units.proofs.heap.the_stores_of_a_group.Given as goal

abbrev pub ghosts-told_and_stores : goal.ghosts-told_and_stores
ghosts-told_and_stores a = record { name = a.blank.name; parts = a.blank.parts }
