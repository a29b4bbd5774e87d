-- What a command that tells one line promises of it.
use Rattle.std.specs.Prelude.{◌≡◌, ◌⊎◌, ℕ, List, Result, Ok, Err, OnOk}
use Rattle.rom_device.specs.Device.{IsSynced, ShownDevice}
use Rattle.rom_text.specs.Runs.{IsCutShort, IsLineWrittenOrCutShort, IsWhollyWritten}
use Rattle.rom_text.specs.Streams.{ShownSink}
use Rattle.rom_name.specs.Adopting.{IsAdopted}
use Rattle.rom_name.specs.Texts.{adopted_text, unadopted_line}
use Rattle.rom_name.specs.declared.adoption.Adopted.{Adopted}
use Rattle.rom_name.specs.declared.adoption.AdoptRefused.{AdoptRefused}
use Rattle.rom_name.specs.declared.adoption.AdoptRefused.TheVariants.{Device}

-- the status of a copy that is made no primary
abbrev pub unadopted_status : AdoptRefused → ℕ
unadopted_status Device = 7
unadopted_status other = 3

module _ {K : Type 0} (sink : ShownSink K) where
  -- The text is printed, and the status is this one; or it is cut short, and the status is 5.
  abbrev pub IsPrintedOr5 : ℕ → List ℕ → K → K → ℕ → Type 0
  IsPrintedOr5 wanted text old new status = ((status ≡ wanted) × IsWhollyWritten sink old new text) ⊎ ((status ≡ 5) × IsCutShort sink old new text)

  -- Why it is made no primary is printed, or cut short; the status is the same.
  abbrev pub IsUnadoptedTold : AdoptRefused → K → K → ℕ → Type 0
  IsUnadoptedTold why old new status = (status ≡ unadopted_status why) × IsLineWrittenOrCutShort sink old new (unadopted_line why)

  -- What became of an adoption is told. With 5 there is a new primary, of which nobody was told.
  abbrev pub IsAdoptionTold : Result Adopted AdoptRefused → K → K → ℕ → Type 0
  IsAdoptionTold (Ok adopted) old new status = IsPrintedOr5 0 (adopted_text adopted) old new status
  IsAdoptionTold (Err why) old new status = IsUnadoptedTold why old new status

-- A copy was made a primary, or was not, and that is told.
pub record TellsAdoption {D K : Type 0} (shown : ShownDevice D) (sink : ShownSink K) (was now : D) (old new : K) (status : ℕ) : Type 0 where
  pub adopted : Result Adopted AdoptRefused
  pub is_adopted : IsAdopted shown was now adopted
  pub certain : OnOk adopted (IsSynced shown now)
  pub told : IsAdoptionTold sink adopted old new status
