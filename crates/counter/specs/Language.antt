-- How what is asked of a counter is written, and what it tells is printed.
use Rattle.std.specs.Prelude.{◌≡◌, ◌≢◌, ℕ, ◌^◌, ◌<◌, List, [], ◌∷◌, ◌++◌, codes, decimal}
use Rattle.rom_model.specs.declared.line.Step.{Step}
use Rattle.rom_model.specs.declared.line.Step.TheVariants.{Update, Ask, Unread}
use Rattle.rom_text.specs.Phrases.{line_words, phrase_words}
use Rattle.rom_text.specs.Text.{ShownText}
use Rattle.counter.specs.declared.counter.Add.{Add}
use Rattle.counter.specs.declared.counter.Query.{Query}
use Rattle.counter.specs.declared.counter.Sum.{Sum}

-- The words of the line are `add` and a number, or `get`; every other line is unread.
abbrev pub ReadsCounter : List ℕ → Step Add Query → Type 0
ReadsCounter line (Update call) = (call.amount < 2 ^ 64) × (line_words line ≡ phrase_words (codes "add") (call.amount ∷ []))
ReadsCounter line (Ask query) = line_words line ≡ phrase_words (codes "get") []
ReadsCounter line Unread = ((n : ℕ) → n < 2 ^ 64 → line_words line ≢ phrase_words (codes "add") (n ∷ [])) × (line_words line ≢ phrase_words (codes "get") [])

-- so by the first word and the numbers behind it
abbrev pub AsksCounter : List ℕ → List ℕ → Step Add Query → Type 0
AsksCounter name numbers (Update call) = (name ≡ codes "add") × (numbers ≡ call.amount ∷ [])
AsksCounter name numbers (Ask query) = (name ≡ codes "get") × (numbers ≡ [])
AsksCounter name numbers Unread = ((n : ℕ) → name ≡ codes "add" → numbers ≢ n ∷ []) × (name ≡ codes "get" → numbers ≢ [])

-- `sum N`
abbrev pub shown_sum : ShownText Sum
shown_sum = record { text = λ sum. codes "sum " ++ decimal sum.value; Fits = λ sum. sum.value < 2 ^ 64 }
