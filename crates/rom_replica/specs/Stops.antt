-- Why the following of a stream of frames ends, and what comes of the frame at which it does.
use Rattle.std.specs.Prelude.{◌≡◌, ◌≢◌, ◌⊎◌, ℕ, ◌≤◌, List, [], ◌∷◌}
use Rattle.rom_model.specs.Codes.{reply_words}
use Rattle.rom_model.specs.History.{LAST_COUNT}
use Rattle.rom_model.specs.declared.call.Reply.{Reply}
use Rattle.rom_model.specs.declared.call.Updated.TheVariants as updated
use Rattle.rom_model.specs.declared.entry.Entry.{Entry}
use Rattle.rom_rule.specs.Views.{Told}
use Rattle.rom_text.specs.Streams.{ShownSource}
use Rattle.rom_frame.specs.Messages.{IsMessageHeard}
use Rattle.rom_frame.specs.declared.stream.message.MessageKind.TheVariants as kind
use Rattle.rom_frame.specs.declared.frame.Frame.{Frame}
use Rattle.rom_follow.specs.Taking.{IsFrame, IsNoFrame, entry_at, found_at}
use Rattle.rom_replica.specs.declared.stop.Stop.{Stop}
use Rattle.rom_replica.specs.declared.stop.Stop.TheVariants.{End, Broken, StreamFailed, DeviceFailed, TooLong, Diverged, Spent}

-- the status of each
abbrev pub stop_number : Stop → ℕ
stop_number End = 0
stop_number Broken = 1
stop_number StreamFailed = 4
stop_number DeviceFailed = 7
stop_number TooLong = 8
stop_number Diverged = 9
stop_number Spent = 10

-- Behind the first bytes of a stream, so many, these bytes were read. The count of updates is this, and so many updates were tried.
module _ {X : Type 0} (source : ShownSource X) (taken : ℕ) (part : List ℕ) (was now : X) (count many : ℕ) where
  -- They are those of one message, which is this frame, and its place is the count.
  pub record IsAtCount (f : Frame) : Type 0 where
    pub heard : IsMessageHeard source taken part was now kind.Whole
    pub is : IsFrame f part
    pub place : f.place ≡ count

  -- It was not done, since the device failed: before the commit, or at it.
  pub record HasFailed (entries : List Entry) (tries : List Told) : Type 0 where
    pub next : Frame
    pub at_count : IsAtCount next
    pub none : entries ≡ []
    pub told : (tries ≡ (found_at many next.call, updated.Failed) ∷ []) ⊎ (tries ≡ (found_at many next.call, updated.Doubt) ∷ [])

  -- It was done, and told another reply than the frame's.
  pub record HasDiverged (entries : List Entry) (tries : List Told) : Type 0 where
    pub next : Frame
    pub at_count : IsAtCount next
    pub ours : Reply
    pub otherwise : ours ≢ next.reply
    pub done : entries ≡ entry_at many next.call ours ∷ []
    pub told : tries ≡ (found_at many next.call, updated.Done (reply_words ours) next.place) ∷ []

  -- It was not done, since the count is the last that there is.
  pub record HasSpent (entries : List Entry) (tries : List Told) : Type 0 where
    pub next : Frame
    pub at_count : IsAtCount next
    pub last : next.place ≡ LAST_COUNT
    pub none : entries ≡ []
    pub told : (tries ≡ (found_at many next.call, updated.Spent) ∷ []) ⊎ ((tries ≡ []) × (LAST_COUNT ≤ many))

  -- What stopped it: the stream's end; bytes that are no frame; a read that failed; its greatest length; or what became of the next frame. And which entries and tries came of that one.
  abbrev pub HasStopped : Stop → List Entry → List Told → Type 0
  HasStopped End entries tries = IsMessageHeard source taken part was now kind.End × (entries ≡ []) × (tries ≡ [])
  HasStopped Broken entries tries = (IsMessageHeard source taken part was now kind.Broken ⊎ (IsMessageHeard source taken part was now kind.Whole × IsNoFrame part)) × (entries ≡ []) × (tries ≡ [])
  HasStopped StreamFailed entries tries = IsMessageHeard source taken part was now kind.Failed × (entries ≡ []) × (tries ≡ [])
  HasStopped TooLong entries tries = IsMessageHeard source taken part was now kind.TooLong × (entries ≡ []) × (tries ≡ [])
  HasStopped DeviceFailed entries tries = HasFailed entries tries
  HasStopped Diverged entries tries = HasDiverged entries tries
  HasStopped Spent entries tries = HasSpent entries tries
