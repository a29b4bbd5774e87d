use Rattle.rom_rows.proofs.asked.asked.Given as goal

abbrev pub ghosts-asked_as : goal.ghosts-asked_as
ghosts-asked_as a = record { name = a.blank.name; parts = a.blank.parts }
