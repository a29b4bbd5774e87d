use Rattle.rom_units.proofs.heap.the_most_stores_of_each_update.Given as goal

abbrev pub ghosts-told_and_stores : goal.ghosts-told_and_stores
ghosts-told_and_stores a = record { name = a.blank.name; parts = a.blank.parts }
