-- What an opening does to a device, by its answer, whatever the object is.
use Rattle.std.specs.Prelude.{◌≡◌, ◌<◌, Result, Ok, Err, IfErr, IsTrue}
use Rattle.rom_device.specs.Device.{ShownDevice, IsSynced, Leaves}
use Rattle.rom_header.specs.Regions.{SameRegion}
use Rattle.rom_header.specs.Writing.{Alters}
use Rattle.rom_recover.specs.Doubt.{IsLeftInDoubt}
use Rattle.rom_recover.specs.Recovered.{IsDone, Mended}
use Rattle.rom_open.specs.Calls.{HasOpeningFaults, OpeningCalls, is_recovered}
use Rattle.rom_open.specs.Opening.{MendsNamed}
use Rattle.rom_open.specs.Refusals.{NamesTooFew, named_order}
use Rattle.rom_open.specs.Within.{WithinOpening}
use Rattle.rom_open.specs.declared.reasons.Why.{Why}
use Rattle.rom_open.specs.declared.reasons.Why.TheVariants.{TooSmall}

-- the refusal, if there is one
abbrev pub told_by : {T : Type 0} → Result T Why → Result (Unit {0}) Why
told_by (Ok done) = Ok tt
told_by (Err why) = Err why

-- The header is read, and where it is accepted the heap is recovered; no more is written. It may be stopped at any moment and run again.
pub record Opens {D : Type 0} (shown : ShownDevice D) (was now : D) (answer : Result (Unit {0}) Why) : Type 0 where
  -- A device of fewer than eight words, which a header takes, is refused as `TooSmall`, whatever its words are.
  pub too_small : shown.size was < 8 → answer ≡ Err (TooSmall 8 (shown.size was))
  -- `TooSmall` names how many words are needed and how many there are, also where words are not told.
  pub sizes : IfErr answer (NamesTooFew (shown.size was))
  -- After `Ok`, and where the region that counts was refused or there was no memory, the heap is recovered: its state is IDLE, and both regions are the one that counted.
  pub recovered : IsTrue shown.tells_words → IsTrue (is_recovered answer) → IsDone (named_order (shown.words was)) (shown.words was) (shown.words now)
  -- Where the heap is recovered no write is unsynced: a stop leaves the words as they read.
  pub certain : IsTrue (is_recovered answer) → IsSynced shown now
  -- Whatever the answer, the words stay, or the region that counted counts and only the state and the two regions may differ.
  pub left : Alters shown MendsNamed was now
  -- Each image that a stop might have left by now could be left before the call, or the region that counted counts there.
  pub images : IsTrue shown.tells_images → Leaves shown (Mended (named_order (shown.words was)) (shown.words was)) was now
  -- An earlier program left at most the state and the region that does not count in doubt; and under IDLE a stop left one of the three states. Then each image that a stop might have left by now could be left before the call, or the region that counted counts there.
  pub doubts : IsTrue shown.tells_doubts → IsLeftInDoubt shown (named_order (shown.words was)) was → Leaves shown (SameRegion (shown.words was)) was now
  -- No call of the device follows one that failed: after `Device` the last one did, after `Twins` it may have, and after any other answer none did.
  pub faults : HasOpeningFaults answer (shown.faults was) (shown.faults now) (shown.failing now)
  -- The device was called exactly as an opening of these words that answers so calls it: after `Device`, and in the reads of `Twins`, no more than that.
  pub calls : IsTrue shown.tells_words → OpeningCalls shown (shown.words was) was now answer
  -- The device was called no more than one opening calls it, and not after a call that failed. Under IDLE every word stays, and a stop leaves no other image than before.
  pub within : WithinOpening shown was now
