use Rattle.rom_lr.proofs.shared.Shared.take_in.Given as goal

abbrev pub ghosts-take_in_as : goal.ghosts-take_in_as
ghosts-take_in_as g a = record { base = a.writer.now.token.me.0.base }
