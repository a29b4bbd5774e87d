use Rattle.rom_units.proofs.heap.loads_of_each_query.Given as goal

abbrev pub ghosts-answer_and_loads : goal.ghosts-answer_and_loads
ghosts-answer_and_loads a = record { name = a.blank.name; parts = a.blank.parts }
