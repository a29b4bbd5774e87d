use Rattle.rom_talk.proofs.converse.serve.Given as goal

abbrev pub ghosts-attend : goal.ghosts-attend
ghosts-attend g a = record { name = a.blank.name; parts = a.blank.parts }
