use Rattle.rom_plain_rows.proofs.costs.stores_of_each_update.Given as goal

abbrev pub ghosts-told_and_stores : goal.ghosts-told_and_stores
ghosts-told_and_stores g a = record { name = a.blank.name; parts = a.blank.parts }
