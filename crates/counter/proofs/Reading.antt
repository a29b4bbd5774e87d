-- What lines are read as.
use Rattle.std.specs.Prelude.{◌≡◌, ◌≢◌, ℕ, ◌≤◌, List, [], ◌∷◌, codes, length}
use Rattle.std.proofs.Common.{sym, ap, ◌∙◌, arith, rules}
use Rattle.rom_model.specs.declared.line.Step.{Step}
use Rattle.rom_model.specs.declared.line.Step.TheVariants.{Update, Ask, Unread}
use Rattle.rom_text.specs.Phrases.{NumbersFit, line_words, phrase_words}
use Rattle.rom_text.proofs.Phrases.{numbers_are}
use Rattle.counter.specs.Language.{AsksCounter, ReadsCounter}
use Rattle.counter.specs.declared.counter.Add.{Add}
use Rattle.counter.specs.declared.counter.Query.{Query}

-- a word and numbers are read as what they ask for
pub asked_reads : (line name numbers : List ℕ) (step : Step Add Query) → line_words line ≡ phrase_words name numbers → NumbersFit numbers → AsksCounter name numbers step → ReadsCounter line step
asked_reads line name [] (Update call) words fit asks = absurd (search rules)
asked_reads line name (x ∷ xs) (Update call) words fit asks =
    (omega (arith, fit.0, ap (λ ns. first ns) asks.1), words ∙ (λ i. phrase_words (asks.0 i) (asks.1 i)))
  where
    first : List ℕ → ℕ
    first [] = 0
    first (y ∷ ys) = y
asked_reads line name numbers (Ask query) words fit asks = words ∙ (λ i. phrase_words (asks.0 i) (asks.1 i))
asked_reads line name numbers Unread words fit asks = (
  λ n small is. let same = sym words ∙ is in asks.0 n (ap first same) (numbers_are numbers (n ∷ []) fit (small, tt) (ap rest same)),
  λ is. let same = sym words ∙ is in asks.1 (ap first same) (numbers_are numbers [] fit tt (ap rest same)),
)
  where
    first : List (List ℕ) → List ℕ
    first [] = []
    first (w ∷ ws) = w

    rest : List (List ℕ) → List (List ℕ)
    rest [] = []
    rest (w ∷ ws) = ws

-- a line of other words is unread
pub none_reads : (line : List ℕ) → ((name numbers : List ℕ) → length numbers ≤ 3 → NumbersFit numbers → line_words line ≢ phrase_words name numbers) → ReadsCounter line Unread
none_reads line none = (λ n small. none (codes "add") (n ∷ []) (omega arith) (small, tt), none (codes "get") [] (omega arith) tt)
