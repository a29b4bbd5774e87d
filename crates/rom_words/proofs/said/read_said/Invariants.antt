use Rattle.std.proofs.Common.{◌≡◌, None, length}
use Rattle.rom_words.specs.Words.{said}
use Rattle.rom_words.specs.Wanted.{told}
use Rattle.rom_words.proofs.Saying.{behind, rest_said}
use Rattle.rom_words.proofs.said.read_said.Given as goal

-- what was read, and then what the rest says, is what the words say
abbrev pub invariant-loop-word : goal.invariant-loop-word
invariant-loop-word l = said l.words None ≡ behind (told l.said) (rest_said l.ended l.rest None)

abbrev pub decreases-loop-word : goal.decreases-loop-word
decreases-loop-word l = length l.rest
