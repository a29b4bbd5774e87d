use Rattle.std.proofs.Common.{◌≡◌, ◌∷◌, ◌++◌, length, map, decimal}
use Rattle.rom_text.specs.Phrases.{NumbersFit, line_words, words_behind}
use Rattle.rom_text.proofs.phrase.read_phrase.Given as goal

-- the numbers so far, and then the words of the rest, stand behind the first word
abbrev pub invariant-loop-rest : goal.invariant-loop-rest
invariant-loop-rest l = record {
  words : line_words l.line ≡ l.name ∷ (map decimal l.numbers.items ++ words_behind l.rest);
  fit : NumbersFit l.numbers.items;
}

abbrev pub decreases-loop-rest : goal.decreases-loop-rest
decreases-loop-rest l = length l.rest
