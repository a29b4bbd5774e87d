-- A copy that is made a primary.
use Rattle.std.specs.Prelude.{◌≡◌, ◌⊎◌, ◌+◌, ◌^◌, ◌-◌, IsTrue, Some, None, Result, Ok, Err, slice_index}
use Rattle.rom_device.specs.Device.{Does, OnlyReads, ShownDevice}
use Rattle.rom_name.specs.Greetings.{CallFailed, NoneFailed}
use Rattle.rom_name.specs.Identities.{IsNamed, IsOwnAnswer, WritesEpoch}
use Rattle.rom_name.specs.declared.adoption.Adopted.{Adopted}
use Rattle.rom_name.specs.declared.adoption.AdoptRefused.{AdoptRefused}
use Rattle.rom_name.specs.declared.adoption.AdoptRefused.TheVariants.{NoHeap, NoName, LastEpoch, Device}
use Rattle.rom_name.specs.declared.count.Own.{Own}

-- This is the epoch behind the last one of a heap, and begins at its count.
pub record IsNext (own : Own) (adopted : Adopted) : Type 0 where
  pub named : IsNamed own.identity.name
  pub name : adopted.name ≡ own.identity.name
  pub epoch : adopted.epoch ≡ own.identity.epoch + 1
  pub count : adopted.count ≡ own.count

module _ {D : Type 0} (shown : ShownDevice D) where
  -- The heap has this identity and count.
  abbrev IsOf : D → Own → Type 0
  IsOf device own = IsTrue shown.tells_words → IsOwnAnswer (shown.words device) (Some own)

  -- the epoch is written
  abbrev Writes : Adopted → D → D → Type 0
  Writes adopted old new = Does shown (WritesEpoch adopted.epoch adopted.count) old new

  -- The device was only read, and did not fail.
  abbrev IsOnlyRead : D → D → Type 0
  IsOnlyRead old new = OnlyReads shown old new × NoneFailed shown old new

  -- What is promised of an adoption.
  abbrev pub IsAdopted : D → D → Result Adopted AdoptRefused → Type 0
  IsAdopted old new (Ok adopted) =
      (own : Own) × IsOf old own × IsNext own adopted × Writes adopted old new × NoneFailed shown old new
      × (IsTrue shown.tells_words → (slice_index (shown.words new) 6 ≡ adopted.epoch) × (slice_index (shown.words new) 7 ≡ adopted.count))
  IsAdopted old new (Err NoHeap) = (IsTrue shown.tells_words → IsOwnAnswer (shown.words old) None) × IsOnlyRead old new
  IsAdopted old new (Err NoName) = (own : Own) × IsOf old own × (IsNamed own.identity.name → ⊥) × IsOnlyRead old new
  IsAdopted old new (Err LastEpoch) = (own : Own) × IsOf old own × (own.identity.epoch ≡ 2 ^ 64 - 1) × IsOnlyRead old new
  IsAdopted old new (Err Device) = CallFailed shown old new × (OnlyReads shown old new ⊎ ((own : Own) × (adopted : Adopted) × IsOf old own × IsNext own adopted × Writes adopted old new))
