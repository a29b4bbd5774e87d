use Rattle.rom_plain_rows.proofs.costs.loads_of_each_query.Given as goal

abbrev pub ghosts-answer_and_loads : goal.ghosts-answer_and_loads
ghosts-answer_and_loads g a = record { name = a.blank.name; parts = a.blank.parts }
