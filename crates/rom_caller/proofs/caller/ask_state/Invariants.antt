use Rattle.rom_caller.proofs.caller.ask_state.Given as goal

abbrev pub ghosts-ask_counted : goal.ghosts-ask_counted
ghosts-ask_counted g a = record { name = a.blank.name; parts = a.blank.parts }
