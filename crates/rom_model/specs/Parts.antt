-- Parts of an inspection. A part is told by what it comes to: what it found, or its first break.
use Rattle.std.specs.Prelude.{◌⊎◌, Result, Ok, Err}
use Rattle.rom_model.specs.declared.unfit.Break.{Break}

-- One part after another. It breaks where the first does, and else as the second, which goes on with
-- what the first found. An inspection is made of such parts, and not of a constructor for each test. So one
-- fact about `Then` shows that there is at most one break, and none in a well-formed region.
abbrev pub Then : {A B : Type 0} → (Result A Break → Type 0) → (A → Result B Break → Type 0) → Result B Break → Type 0
Then {A} first second (Ok found) = (a : A) × first (Ok a) × second a (Ok found)
Then {A} first second (Err e) = first (Err e) ⊎ ((a : A) × first (Ok a) × second a (Err e))
