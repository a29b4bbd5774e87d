use Rattle.rom_caller.proofs.caller.enter_state.Given as goal

abbrev pub ghosts-enter_counted : goal.ghosts-enter_counted
ghosts-enter_counted g a = record { name = a.blank.name; parts = a.blank.parts }
