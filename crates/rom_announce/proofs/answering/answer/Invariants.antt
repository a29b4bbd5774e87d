use Rattle.rom_announce.specs.Answering.{fate_of_place}
use Rattle.rom_announce.proofs.answering.answer.Given as goal

abbrev pub ghosts-begin : goal.ghosts-begin
ghosts-begin g a = record { before = a.before; after = a.after; fate = fate_of_place a.place; moment = 0 }
