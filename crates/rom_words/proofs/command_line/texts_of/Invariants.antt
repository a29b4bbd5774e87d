use Rattle.std.proofs.Common.{◌≡◌, take}
use Rattle.rom_words.specs.Wanted.{texts}
use Rattle.rom_words.proofs.command_line.texts_of.Given as goal

-- the texts so far
abbrev pub invariant-loop-word : goal.invariant-loop-word
invariant-loop-word l = texts l.all.items ≡ take l.word-index l.word-items
