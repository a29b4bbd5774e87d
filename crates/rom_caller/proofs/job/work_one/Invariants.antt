use Rattle.std.proofs.Common.{◌+◌}
use Rattle.rom_caller.proofs.job.work_one.Given as goal

abbrev pub ghosts-work_as : goal.ghosts-work_as
ghosts-work_as g a = record { number = a.index + 1 }
