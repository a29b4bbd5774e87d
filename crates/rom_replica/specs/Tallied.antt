-- One message of a stream that is followed, and all up to the first stop.
use Rattle.std.specs.Prelude.{◌≡◌, ℕ, ◌+◌, ◌==◌, List, [], ◌∷◌, ◌++◌, length, Option, Some, None, if◌then◌else◌}
use Rattle.std.specs.List.{AllByRecursion}
use Rattle.std.specs.Io.KnownBytes.{Consumes}
use Rattle.rom_model.specs.declared.entry.Entry.{Entry}
use Rattle.rom_rule.specs.Views.{Told}
use Rattle.rom_text.specs.Streams.{IsAskedOnce, ShownSource}
use Rattle.rom_frame.specs.Messages.{GaveOn}
use Rattle.rom_frame.specs.Frames.{IsOfWords, frame}
use Rattle.rom_frame.specs.declared.frame.Frame.{Frame}
use Rattle.rom_follow.specs.Followed.{Followed}
use Rattle.rom_follow.specs.Taking.{doing}
use Rattle.rom_follow.specs.declared.taken.MessageTaken.{MessageTaken}
use Rattle.rom_follow.specs.declared.taken.MessageTaken.TheVariants as taken
use Rattle.rom_replica.specs.Stops.{HasStopped}
use Rattle.rom_replica.specs.Turns.{applied, bytes_of_all, early, entries_from, known, tries_from}
use Rattle.rom_replica.specs.declared.stop.Stop.{Stop}
use Rattle.rom_replica.specs.declared.stop.Stop.TheVariants.{Broken, DeviceFailed, Diverged, Spent}
use Rattle.rom_replica.specs.declared.tally.Tally.{Tally}

-- So many more frames were applied, known and early, of so many bytes.
pub record CountsFrames (a k e len : ℕ) (old new : Tally) : Type 0 where
  pub applied_is : new.applied ≡ old.applied + a
  pub known_is : new.known ≡ old.known + k
  pub early_is : new.early ≡ old.early + e
  pub bytes_is : new.bytes ≡ old.bytes + len

-- what an answer to a message of so many bytes adds, or that it is a stop
abbrev pub AddsToTally : MessageTaken → ℕ → Tally → Tally → Option Stop → Type 0
AddsToTally (taken.Applied place) len old new stop = CountsFrames 1 0 0 len old new × (stop ≡ None)
AddsToTally (taken.Known place) len old new stop = CountsFrames 0 1 0 len old new × (stop ≡ None)
AddsToTally (taken.Early place want) len old new stop = CountsFrames 0 0 1 len old new × (stop ≡ None)
AddsToTally taken.NotAFrame len old new stop = (new ≡ old) × (stop ≡ Some Broken)
AddsToTally (taken.Diverged place ours theirs) len old new stop = (new ≡ old) × (stop ≡ Some Diverged)
AddsToTally taken.Spent len old new stop = (new ≡ old) × (stop ≡ Some Spent)
AddsToTally taken.Failed len old new stop = (new ≡ old) × (stop ≡ Some DeviceFailed)
AddsToTally taken.Doubt len old new stop = (new ≡ old) × (stop ≡ Some DeviceFailed)

-- the follower behind the turn of a frame that is no stop: it has done the update, if its place is the count
abbrev pub behind_frame : Frame → Followed → Followed
behind_frame f old = if f.place == old.count then doing old f.call f.reply else old

-- The tally is that of these frames, from a count on.
pub record IsTallyOfFrames (count : ℕ) (frames : List Frame) (tally : Tally) : Type 0 where
  pub applied_is : tally.applied ≡ length (applied count frames)
  pub known_is : tally.known ≡ known count frames
  pub early_is : tally.early ≡ early count frames
  pub bytes_is : tally.bytes ≡ length (bytes_of_all frames)

module _ {X : Type 0} (source : ShownSource X) where
  -- A frame was read and was no stop.
  pub record GoesOn (was now : X) (old new : Followed) (before after : Tally) : Type 0 where
    pub next : Frame
    pub of_words : IsOfWords next
    pub read : Consumes (source.left was) (source.left now) (frame next)
    pub gave : GaveOn source was now
    pub follower : new ≡ behind_frame next old
    pub counts : CountsFrames (length (applied old.count (next ∷ []))) (known old.count (next ∷ [])) (early old.count (next ∷ [])) (length (frame next)) before after

  -- What was read, or what came of it, is a stop.
  pub record Stops (stop : Stop) (was now : X) (old new : Followed) (before after : Tally) : Type 0 where
    pub part : List ℕ
    pub entries : List Entry
    pub tries : List Told
    pub read : Consumes (source.left was) (source.left now) part
    pub stopped : HasStopped source before.bytes part was now old.count (length old.tried) stop entries tries
    pub history : new.history ≡ old.history ++ entries
    pub tried : new.tried ≡ old.tried ++ tries
    pub tally : after ≡ before
    pub asked_once : IsAskedOnce source was now

  -- either of them
  abbrev pub Turn : Option Stop → X → X → Followed → Followed → Tally → Tally → Type 0
  Turn None was now old new before after = GoesOn was now old new before after
  Turn (Some stop) was now old new before after = Stops stop was now old new before after

  -- The first frames of a stream were taken, and none was a stop: a follower that had done nothing has done the updates of those whose places were the count.
  pub record HasGoneOn (frames : List Frame) (n0 : ℕ) (was now : X) (new : Followed) (tally : Tally) : Type 0 where
    pub of_words : AllByRecursion IsOfWords frames
    pub read : Consumes (source.left was) (source.left now) (bytes_of_all frames)
    pub gave : GaveOn source was now
    pub count_is : new.count ≡ n0 + length (applied n0 frames)
    pub history : new.history ≡ entries_from 0 (applied n0 frames)
    pub tried : new.tried ≡ tries_from 0 (applied n0 frames)
    pub agrees : new.diverged ≡ None
    pub tally_is : IsTallyOfFrames n0 frames tally

  -- So up to the first stop.
  pub record WasFollowed (stop : Stop) (n0 : ℕ) (was now : X) (new : Followed) (tally : Tally) : Type 0 where
    pub frames : List Frame
    pub part : List ℕ
    pub entries : List Entry
    pub tries : List Told
    pub of_words : AllByRecursion IsOfWords frames
    pub read : Consumes (source.left was) (source.left now) (bytes_of_all frames ++ part)
    pub stopped : (let many = length (applied n0 frames) in HasStopped source (length (bytes_of_all frames)) part was now (n0 + many) many stop entries tries)
    pub history : new.history ≡ entries_from 0 (applied n0 frames) ++ entries
    pub tried : new.tried ≡ tries_from 0 (applied n0 frames) ++ tries
    pub tally_is : IsTallyOfFrames n0 frames tally
    pub asked_once : IsAskedOnce source was now
