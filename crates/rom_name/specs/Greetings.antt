-- What becomes of a stream that is to be followed on the heap of a device.
use Rattle.std.specs.Prelude.{◌≡◌, ◌⊎◌, Bool, IsTrue, IsFalse, Some, None, slice_index}
use Rattle.rom_model.specs.Faults.{FailedLast}
use Rattle.rom_device.specs.Device.{Does, OnlyReads, ShownDevice}
use Rattle.rom_name.specs.Identities.{IsOwnAnswer, WritesEpoch, WritesIdentity, identity_of}
use Rattle.rom_name.specs.Meetings.{IsMeeting}
use Rattle.rom_name.specs.declared.count.Own.{Own}
use Rattle.rom_name.specs.declared.greeting.Greeting.{Greeting}
use Rattle.rom_name.specs.declared.greeting.Greeting.TheVariants.{Followed, Refused, StreamFailed, DeviceFailed}
use Rattle.rom_name.specs.declared.meeting.Meeting.{Meeting}
use Rattle.rom_name.specs.declared.meeting.Meeting.TheVariants as meeting
use Rattle.rom_name.specs.declared.meeting.Refusal.TheVariants as refusal
use Rattle.rom_name.specs.declared.peeked.First.{First}
use Rattle.rom_name.specs.declared.peeked.First.TheVariants as first

-- What is done of a stream that begins so on a heap of this identity and count. One without a head is followed where `anonymous` says so, and nowhere else.
abbrev pub IsMet : Bool → Own → First → Meeting → Type 0
IsMet anonymous own (first.Headed h) met = IsMeeting own.identity own.count h met
IsMet anonymous own first.Headless met = (IsTrue anonymous × (met ≡ meeting.Follow)) ⊎ (IsFalse anonymous × (met ≡ meeting.Refused refusal.Nameless))
IsMet anonymous own first.Empty met = met ≡ meeting.Follow
IsMet anonymous own first.Failed met = ⊥

module _ {D : Type 0} (shown : ShownDevice D) where
  -- of the device's calls the last one failed, and no other
  abbrev pub CallFailed : D → D → Type 0
  CallFailed old new = FailedLast (shown.faults old) (shown.faults new) (shown.failing new)

  -- none failed
  abbrev pub NoneFailed : D → D → Type 0
  NoneFailed old new = shown.faults new ≡ shown.faults old

  -- What was done of a meeting: the identity or the epoch is written, where one is taken, and else the device was only read.
  abbrev pub IsCarriedOut : Meeting → D → D → Greeting → Type 0
  IsCarriedOut meeting.Follow old new greeting = (greeting ≡ Followed) × OnlyReads shown old new × NoneFailed old new
  IsCarriedOut (meeting.Refused why) old new greeting = (greeting ≡ Refused why) × OnlyReads shown old new × NoneFailed old new
  IsCarriedOut (meeting.Take identity) old new greeting =
      Does shown (WritesIdentity identity) old new
      × (((greeting ≡ Followed) × (IsTrue shown.tells_words → identity_of (shown.words new) ≡ identity) × NoneFailed old new) ⊎ ((greeting ≡ DeviceFailed) × CallFailed old new))
  IsCarriedOut (meeting.Raise epoch since) old new greeting =
      Does shown (WritesEpoch epoch since) old new
      × (((greeting ≡ Followed) × (IsTrue shown.tells_words → (slice_index (shown.words new) 6 ≡ epoch) × (slice_index (shown.words new) 7 ≡ since)) × NoneFailed old new) ⊎ ((greeting ≡ DeviceFailed) × CallFailed old new))

  -- No heap stands there, and neither the device nor the stream was touched but by reads of the header.
  pub record IsUnmet {X : Type 0} (old new : D) (was now : X) : Type 0 where
    pub none : IsTrue shown.tells_words → IsOwnAnswer (shown.words old) None
    pub device : OnlyReads shown old new
    pub unfailed : NoneFailed old new
    pub stream : now ≡ was

  module _ {X : Type 0} (IsFirst : First → X → X → Type 0) where
    -- The heap was read, then what stands first in the stream, and then came of both what is to come.
    pub record IsMetSo (anonymous : Bool) (old new : D) (was now : X) (greeting : Greeting) : Type 0 where
      pub own : Own
      pub own_is : IsTrue shown.tells_words → IsOwnAnswer (shown.words old) (Some own)
      pub first : First
      pub first_is : IsFirst first was now
      pub met : Meeting
      pub met_is : IsMet anonymous own first met
      pub done : IsCarriedOut met old new greeting

    -- What is promised of a greeting. Where no heap stands the stream may be followed: the opening says why not.
    abbrev pub IsGreeted : Bool → D → D → X → X → Greeting → Type 0
    IsGreeted anonymous old new was now StreamFailed = IsFirst first.Failed was now × OnlyReads shown old new × NoneFailed old new
    IsGreeted anonymous old new was now DeviceFailed = CallFailed old new × ((OnlyReads shown old new × (now ≡ was)) ⊎ IsMetSo anonymous old new was now DeviceFailed)
    IsGreeted anonymous old new was now (Refused why) = IsMetSo anonymous old new was now (Refused why)
    IsGreeted anonymous old new was now Followed = IsUnmet old new was now ⊎ IsMetSo anonymous old new was now Followed
