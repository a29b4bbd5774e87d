-- What a contract sees of a part of a script, and of a script that is too long.
use Rattle.std.specs.Prelude.{ℕ, ◌<◌, List, length}
use Rattle.rom_carry.specs.Scripts.{between}
use Rattle.rom_carry.specs.declared.part.Part.{Part}
use Rattle.rom_carry.specs.declared.written.Written.{Ghosts}
use Rattle.rom_text.specs.declared.read.TheConstants.{MAX_BYTES}

-- the lines that it has, of those of its elements
abbrev pub lines_in : {E : Type 0} {written : Ghosts E} → Part E written → List (List ℕ)
lines_in {E} {written} part = between part.from part.to (written.lines part.elements.now)

-- the bytes are more than a script may have
abbrev pub AreTooManyBytes : List ℕ → Type 0
AreTooManyBytes bytes = MAX_BYTES < length bytes
