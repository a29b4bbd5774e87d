-- Which statuses a command ends with, and what follows from each.
use Rattle.std.specs.Prelude.{◌≡◌, ◌⊎◌, ℕ, List, Some, Result, Err}
use Rattle.std.proofs.Common.{ap, arith, inl, inr, ⊎_elim}
use Rattle.rom_text.specs.Runs.{SourceFailed, SourceTooLong}
use Rattle.rom_text.specs.Streams.{ShownSink, ShownSource}
use Rattle.rom_run.specs.Reading.{AreNotRun}
use Rattle.rom_run.specs.Statuses.{exit_number}
use Rattle.rom_run.specs.Use.{Drawn, HasRead, IsStatus, Makes, Plays, Read, Shows, Upgrades, Use}
use Rattle.rom_run.specs.declared.heap.Heap.{Heap}
use Rattle.rom_run.specs.declared.status.Status.{Status}
use Rattle.rom_run.specs.declared.status.Status.TheVariants.{NoMemory, ScriptFailed, ScriptTooLong}

-- a command that asks for a use of a heap never ends as words that are none
pub never_two : {P : Type 0} (does : Use) (status : ℕ) → IsStatus (Some does) status → status ≡ 2 → P
never_two (Plays heap Read) status is two = absurd (omega (arith, is, two))
never_two (Plays heap Drawn) status is two = absurd (omega (arith, is, two))
never_two (Makes order) status is two = absurd (omega (arith, is, two))
never_two Shows status is two = absurd (omega (arith, is, two))
never_two Upgrades status is two = absurd (omega (arith, is, two))

-- ---- scripts that were read and played

pub played_status : (heap : Heap) (status : ℕ) → (status ≡ 0) ⊎ (status ≡ 1) ⊎ (status ≡ 3) ⊎ (status ≡ 5) ⊎ (status ≡ 6) ⊎ (status ≡ 7) → IsStatus (Some (Plays heap Read)) status
played_status heap status (inl is) = inl is
played_status heap status (inr (inl is)) = inr (inl is)
played_status heap status (inr (inr (inl is))) = inr (inr (inl is))
played_status heap status (inr (inr (inr (inl is)))) = inr (inr (inr (inr (inl is))))
played_status heap status (inr (inr (inr (inr (inl is))))) = inr (inr (inr (inr (inr (inl is)))))
played_status heap status (inr (inr (inr (inr (inr is))))) = inr (inr (inr (inr (inr (inr (inl is))))))

module _ {P : Type 0} (status : ℕ) (is : (status ≡ 0) ⊎ (status ≡ 1) ⊎ (status ≡ 3) ⊎ (status ≡ 5) ⊎ (status ≡ 6) ⊎ (status ≡ 7)) where
  -- none of them is that of a script that can't be read
  pub played_not_failed : status ≡ 4 → P
  played_not_failed four = absurd (omega (arith, is, four))

  pub played_not_long : status ≡ 8 → P
  played_not_long eight = absurd (omega (arith, is, eight))

  pub played_not_unread : (status ≡ 2) ⊎ (status ≡ 4) ⊎ (status ≡ 8) → P
  played_not_unread (inl two) = absurd (omega (arith, is, two))
  played_not_unread (inr (inl four)) = played_not_failed four
  played_not_unread (inr (inr eight)) = played_not_long eight

  pub played_not_run : ((status ≡ 3) ⊎ (status ≡ 6) → P) → (status ≡ 3) ⊎ (status ≡ 4) ⊎ (status ≡ 6) ⊎ (status ≡ 8) → P
  played_not_run left (inl three) = left (inl three)
  played_not_run left (inr (inl four)) = played_not_failed four
  played_not_run left (inr (inr (inl six))) = left (inr six)
  played_not_run left (inr (inr (inr eight))) = played_not_long eight

-- ---- scripts that could not be read

module _ (status : Status) (is : (status ≡ ScriptFailed) ⊎ (status ≡ ScriptTooLong) ⊎ (status ≡ NoMemory)) where
  unread_number : (exit_number status ≡ 4) ⊎ (exit_number status ≡ 8) ⊎ (exit_number status ≡ 6)
  unread_number = ⊎_elim (λ one. inl (ap exit_number one)) (λ more. inr (⊎_elim (λ two. inl (ap exit_number two)) (λ three. inr (ap exit_number three)) more)) is

  pub unread_ends : (heap : Heap) → IsStatus (Some (Plays heap Read)) (exit_number status)
  unread_ends heap = ⊎_elim (λ four. inr (inr (inr (inl four)))) (λ more. ⊎_elim (λ eight. inr (inr (inr (inr (inr (inr (inr eight))))))) (λ six. inr (inr (inr (inr (inr (inl six)))))) more) unread_number

  -- none is that of a heap that was opened or made
  pub unread_not_run : {P : Type 0} → (exit_number status ≡ 0) ⊎ (exit_number status ≡ 1) ⊎ (exit_number status ≡ 5) → P
  unread_not_run ran = let number = unread_number in absurd (omega (arith, number, ran))

  pub unread_not_read : {P : Type 0} → HasRead (exit_number status) → P
  unread_not_read read = let number = unread_number in absurd (omega (arith, number, read))

  pub unread_not_five : {P : Type 0} → exit_number status ≡ 5 → P
  unread_not_five five = let number = unread_number in absurd (omega (arith, number, five))

pub unread_four : {A : Type 0} (status : Status) → ◌≡◌ {A = Result A Status} (Err status) (Err ScriptFailed) → exit_number status ≡ 4
unread_four status is = let same : status ≡ ScriptFailed = cc in ap exit_number same

module _ {X K : Type 0} (source : ShownSource X) (sink : ShownSink K) (before after : List X) (old new : K) where
  -- why, by the status
  pub unread_failed : (status : Status) → AreNotRun source sink status before after old new → exit_number status ≡ 4 → SourceFailed source sink before after old new
  unread_failed ScriptFailed why four = why
  unread_failed other why four = absurd (omega (arith, four))

  pub unread_too_long : (status : Status) → AreNotRun source sink status before after old new → exit_number status ≡ 8 → SourceTooLong source sink before after old new
  unread_too_long ScriptTooLong why eight = why
  unread_too_long other why eight = absurd (omega (arith, eight))
