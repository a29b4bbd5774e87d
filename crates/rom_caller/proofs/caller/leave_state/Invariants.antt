use Rattle.rom_caller.proofs.caller.leave_state.Given as goal

abbrev pub ghosts-leave_counted : goal.ghosts-leave_counted
ghosts-leave_counted g a = record { name = a.blank.name; parts = a.blank.parts }
