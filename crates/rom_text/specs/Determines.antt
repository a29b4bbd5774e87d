-- What printed lines say of the results that they are of.
use Rattle.std.specs.Prelude.{◌≡◌, ℕ, ◌^◌, ◌<◌, List}
use Rattle.rom_model.specs.declared.line.LineResult.{LineResult}
use Rattle.rom_text.specs.Text.{AreOfType, Texts, text}

-- The printed lines determine their results: what has the same text are the same results with the same count.
abbrev pub TextDetermines : {R A : Type 0} → Texts R A → Type 0
TextDetermines {R} {A} texts =
    (rs qs : List (List (LineResult R A))) (m n : ℕ) → AreOfType texts rs → AreOfType texts qs → m < 2 ^ 64 → n < 2 ^ 64
    → text texts rs m ≡ text texts qs n → (rs ≡ qs) × (m ≡ n)
