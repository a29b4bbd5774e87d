-- Tests of words in the order in which they are made, of which the first that does not hold is told.
use Rattle.std.specs.Prelude.{ℕ, zero, suc, ◌+◌, Bool, ◌==◌, List, [], ◌∷◌, if◌then◌else◌, Result, Ok, Err, slice_index}
use Rattle.rom_model.specs.declared.unfit.Rule.{Rule}
use Rattle.rom_model.specs.declared.unfit.Break.{Break}

-- whether it holds, and what is told where it does not
pub record Test : Type 0 where
  pub broken : Break
  pub holds : Bool

-- the test of that word by that rule
abbrev pub test : ℕ → Rule → Bool → Test
test offset rule holds = record { broken = record { offset = offset; rule = rule }; holds = holds }

-- what was found before, where all of the tests hold, and else the first that does not
abbrev pub tested : {A : Type 0} → List Test → A → Result A Break
tested [] found = Ok found
tested (t ∷ tests) found = if t.holds then tested tests found else Err t.broken

-- nothing where all of the tests hold, and else the first that does not
abbrev pub checked : List Test → Result (Unit {0}) Break
checked tests = tested {A = Unit {0}} tests tt

-- the word at that offset is this one
abbrev pub is_word : List ℕ → ℕ → Rule → ℕ → Test
is_word words offset rule word = test offset rule (slice_index words offset == word)

-- so many words from that offset on are 0, each with a test of its own
abbrev pub are_zero : List ℕ → ℕ → ℕ → Rule → List Test
are_zero words offset zero rule = []
are_zero words offset (suc many) rule = is_word words offset rule 0 ∷ are_zero words (offset + 1) many rule
