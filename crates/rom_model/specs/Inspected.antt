-- What an inspection answers of words that it does not accept.
use Rattle.std.specs.Prelude.{ℕ, List}
use Rattle.rom_model.specs.declared.unfit.Unfit.{Unfit}
use Rattle.rom_model.specs.declared.unfit.Unfit.TheVariants.{Malformed, Old, OutOfMemory}

-- The answer is the reason, of which `Rejects` says what it is of the words; want of memory says nothing of them.
abbrev pub IsReason : (Unfit → Type 0) → Unfit → Type 0
IsReason Rejects (Malformed offset rule) = Rejects (Malformed offset rule)
IsReason Rejects Old = Rejects Old
IsReason Rejects OutOfMemory = Unit {0}
