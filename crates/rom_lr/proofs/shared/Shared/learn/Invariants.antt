use Rattle.rom_lr.proofs.shared.Shared.learn.Given as goal

abbrev pub ghosts-learn_as : goal.ghosts-learn_as
ghosts-learn_as g a = record { base = a.seat.now.token.me.0.base }
