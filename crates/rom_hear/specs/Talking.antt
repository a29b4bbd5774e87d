-- What makes of a log a talk.
use Rattle.std.specs.Prelude.{◌≡◌, ℕ, ◌≤◌, true, List, ◌∷◌, ◌++◌, length, take}
use Rattle.rom_model.specs.declared.line.Step.{Step}
use Rattle.rom_model.specs.declared.line.LineResult.{LineResult}
use Rattle.rom_text.specs.Lines.{AreRead}
use Rattle.rom_text.specs.Text.{Texts, results_text}
use Rattle.rom_hear.specs.Events.{Event, Heard, Said, has_ended, known_in, known_lines, said_in}

-- the bytes are some of the text, from its front
abbrev pub IsFrontOf : List ℕ → List ℕ → Type 0
IsFrontOf bytes text = (n : ℕ) × (bytes ≡ take n text)

module _ {R A K : Type 0} (texts : Texts R A) where
  -- Each line is answered at once, in its turn and in no other words.
  pub record IsPrompt (results : List (LineResult R A)) (log : List (Event K)) : Type 0 where
    -- Whenever more is asked for, each line that is known by then has been answered, and nothing else has been said.
    pub answered : (before after : List (Event K)) (bytes : List ℕ) → log ≡ before ++ Heard bytes ∷ after → (known_in before ≤ length results) × (said_in before ≡ results_text texts (take (known_in before) results))
    -- At no moment has more been said than of lines that are known by then.
    pub caused : (before after : List (Event K)) → log ≡ before ++ after → IsFrontOf (said_in before) (results_text texts (take (known_in before) results))

  -- Whatever was said, at that moment all that had been said was of so many results, of lines known by then, and what the caller knew of these is such.
  abbrev pub IsFounded : (K → List (LineResult R A) → Type 0) → List (LineResult R A) → List (Event K) → Type 0
  IsFounded Knows results log = (before after : List (Event K)) (bytes : List ℕ) (knowing : K) → log ≡ before ++ Said bytes knowing ∷ after →
      (many : ℕ) × (many ≤ known_in before) × (many ≤ length results) × IsFrontOf (said_in before ++ bytes) (results_text texts (take many results)) × Knows knowing (take many results)

  -- A talk goes on: all results were said, each at once and by one who knew enough.
  pub record IsOn (Knows : K → List (LineResult R A) → Type 0) (results : List (LineResult R A)) (log : List (Event K)) : Type 0 where
    pub prompt : IsPrompt results log
    pub founded : IsFounded Knows results log
    pub said : said_in log ≡ results_text texts results

  module _ {C Q : Type 0} (Reads : List ℕ → Step C Q → Type 0) where
    -- Of the lines that were heard the first were done, one after another, and each was answered at once, as far as anything was taken.
    pub record IsTalk (steps : List (Step C Q)) (results : List (LineResult R A)) (log : List (Event K)) : Type 0 where
      pub read : AreRead Reads (take (length steps) (known_lines log)) steps
      pub many : length results ≡ length steps
      pub prompt : IsPrompt results log

    -- It came to its end: nothing more will be heard, all lines were done, and all that they were told was taken.
    pub record IsWholeTalk (steps : List (Step C Q)) (results : List (LineResult R A)) (log : List (Event K)) : Type 0 where
      pub talk : IsTalk steps results log
      pub ended : has_ended log ≡ true
      pub all : length steps ≡ known_in log
      pub said : said_in log ≡ results_text texts results
