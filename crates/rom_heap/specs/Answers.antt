-- What is told of a region, in either version.
use Rattle.std.specs.Prelude.{◌≡◌, ℕ, Bool, true, false, ◌==◌, ◌&&◌, List, Result, Ok, Err, slice_index}
use Rattle.rom_model.specs.Earlier.{Earlier}
use Rattle.rom_model.specs.State.{State}
use Rattle.rom_model.specs.Region.{is_old, IsWellFormed, OldContents}
use Rattle.rom_model.specs.declared.unfit.Unfit.{Unfit}
use Rattle.rom_model.specs.declared.unfit.Unfit.TheVariants.{Malformed, Old, OutOfMemory}
use Rattle.rom_heap.specs.Parts.{FirstBreak}
use Rattle.rom_heap.specs.declared.inspect.version.Version.{Version}
use Rattle.rom_heap.specs.declared.inspect.version.Version.TheVariants as version

-- The region is a well-formed one of version 1.
pub record IsOldWellFormed (n : ℕ) (words : List ℕ) : Type 0 where
  pub state : State
  pub count : ℕ
  pub contents : OldContents n words state count

-- The words are not a well-formed region of this version: they say that they are of version 1, or they do not and this is the first break.
-- One relation has both reasons, so a caller that hands them on has one name to cite. Of an object without an
-- older version the relation says that `Old` is never a reason.
abbrev pub Rejects : ℕ → List ℕ → Unfit → Type 0
Rejects n words (Malformed offset rule) = (is_old words ≡ false) × FirstBreak version.Now n words (record { offset = offset; rule = rule })
Rejects n words Old = is_old words ≡ true
Rejects n words OutOfMemory = ⊥

-- They are not one of version 1, and this is the first break.
abbrev pub OldRejects : ℕ → List ℕ → Unfit → Type 0
OldRejects n words (Malformed offset rule) = FirstBreak version.Old n words (record { offset = offset; rule = rule })
OldRejects n words Old = ⊥
OldRejects n words OutOfMemory = ⊥

-- the words say that they are of version 2
abbrev pub is_new : List ℕ → Bool
is_new words = (slice_index words 0 == 1) && (slice_index words 1 == 2)

-- the version before this one
abbrev pub earlier : Earlier State
earlier = record { Contents = OldContents; Rejects = OldRejects; is_next = is_new }

-- well-formed in that version
abbrev pub IsFit : Version → ℕ → List ℕ → Type 0
IsFit version.Old n words = IsOldWellFormed n words
IsFit version.Now n words = IsWellFormed n words

-- What code answers that tests words by one version: well-formed, or the first break, or nothing for want of memory.
abbrev pub IsInspected : Version → ℕ → List ℕ → Result (Unit {0}) Unfit → Type 0
IsInspected v n words (Ok done) = IsFit v n words
IsInspected v n words (Err (Malformed offset rule)) = FirstBreak v n words record { offset = offset; rule = rule }
IsInspected v n words (Err Old) = ⊥
IsInspected v n words (Err OutOfMemory) = Unit {0}
