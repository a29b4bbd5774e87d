-- The version that an object's region had before this one.
use Rattle.std.specs.Prelude.{ℕ, Bool, false, List}
use Rattle.rom_model.specs.declared.unfit.Unfit.{Unfit}

-- What the words of a region say of that version. The numbers are an order and a count.
pub record Earlier (S : Type 0) : Type 1 where
  -- they are well-formed, and stand for this state and this count
  pub Contents : ℕ → List ℕ → S → ℕ → Type 0
  -- they are not well-formed, for this reason
  pub Rejects : ℕ → List ℕ → Unfit → Type 0
  -- they say that they are of the version that came next
  pub is_next : List ℕ → Bool

-- there was none
abbrev pub no_earlier : {S : Type 0} → Earlier S
no_earlier = record { Contents = λ order words state count. ⊥; Rejects = λ order words reason. ⊥; is_next = λ words. false }
