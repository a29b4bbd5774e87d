-- What was read of a stream, with the reads before it that gave bytes.
use Rattle.std.proofs.Common.{◌≡◌, ℕ, ◌+◌, List, ◌++◌, length, inl, inr, sym, ap, ◌∙◌, subst}
use Rattle.std.proofs.KnownBytes.{Consumes-trans}
use Rattle.rom_model.specs.Faults.{StopsAtFault}
use Rattle.rom_model.specs.declared.entry.Entry.{Entry}
use Rattle.rom_rule.specs.Views.{Told}
use Rattle.rom_text.specs.Streams.{IsAskedOnce, ShownSource}
use Rattle.rom_frame.specs.Messages.{GaveOn, IsMessageHeard}
use Rattle.rom_frame.specs.declared.stream.message.MessageKind.{MessageKind}
use Rattle.rom_frame.specs.declared.stream.message.MessageKind.TheVariants as kind
use Rattle.rom_frame.proofs.Hearing.{came_on, failed_on, gave_on}
use Rattle.rom_frame.specs.declared.frame.Frame.{Frame}
use Rattle.rom_follow.specs.Followed.{Followed}
use Rattle.rom_replica.specs.Stops.{HasStopped, IsAtCount}
use Rattle.rom_replica.specs.Tallied.{HasGoneOn, IsTallyOfFrames, Stops, WasFollowed}
use Rattle.rom_replica.specs.Turns.{applied, bytes_of_all}
use Rattle.rom_replica.specs.declared.stop.Stop.{Stop}
use Rattle.rom_replica.specs.declared.stop.Stop.TheVariants.{End, Broken, StreamFailed, DeviceFailed, TooLong, Diverged, Spent}
use Rattle.rom_replica.specs.declared.tally.Tally.{Tally}
use Rattle.rom_replica.proofs.Turning.{length-tries}

module _ {X : Type 0} (source : ShownSource X) (taken : ℕ) (part : List ℕ) (was mid now : X) (gave : GaveOn source was mid) where
  heard_since : (k : MessageKind) → IsMessageHeard source taken part mid now k → IsMessageHeard source taken part was now k
  heard_since kind.Whole is = (is.0, is.1, gave_on source was mid now gave is.2)
  heard_since kind.End is = (is.0, came_on source was mid now gave is.1)
  heard_since kind.Broken (within, inl is) = (within, inl (is.0, gave_on source was mid now gave is.1))
  heard_since kind.Broken (within, inr is) = (within, inr (is.0, is.1, came_on source was mid now gave is.2))
  heard_since kind.Failed is = (is.0, is.1, failed_on source was mid now gave is.2)
  heard_since kind.TooLong is = (is.0, is.1, gave_on source was mid now gave is.2)

  at_count_since : (count many : ℕ) (f : Frame) → IsAtCount source taken part mid now count many f → IsAtCount source taken part was now count many f
  at_count_since count many f is = record { heard = heard_since kind.Whole is.heard; is = is.is; place = is.place }

  pub stopped_since : (count many : ℕ) (stop : Stop) (entries : List Entry) (tries : List Told) → HasStopped source taken part mid now count many stop entries tries → HasStopped source taken part was now count many stop entries tries
  stopped_since count many End entries tries is = (heard_since kind.End is.0, is.1, is.2)
  stopped_since count many Broken entries tries (inl is, none, silent) = (inl (heard_since kind.Broken is), none, silent)
  stopped_since count many Broken entries tries (inr is, none, silent) = (inr (heard_since kind.Whole is.0, is.1), none, silent)
  stopped_since count many StreamFailed entries tries is = (heard_since kind.Failed is.0, is.1, is.2)
  stopped_since count many TooLong entries tries is = (heard_since kind.TooLong is.0, is.1, is.2)
  stopped_since count many DeviceFailed entries tries is = record { next = is.next; at_count = at_count_since count many is.next is.at_count; none = is.none; told = is.told }
  stopped_since count many Diverged entries tries is = record { next = is.next; at_count = at_count_since count many is.next is.at_count; ours = is.ours; otherwise = is.otherwise; done = is.done; told = is.told }
  stopped_since count many Spent entries tries is = record { next = is.next; at_count = at_count_since count many is.next is.at_count; last = is.last; none = is.none; told = is.told }

  pub asked_since : IsAskedOnce source mid now → IsAskedOnce source was now
  asked_since is = record {
    idle = subst (λ (n : ℕ). StopsAtFault n (source.idle now) (source.ended now)) gave.idle is.idle;
    faults = subst (λ (n : ℕ). StopsAtFault n (source.faults now) (source.ended now)) gave.faults is.faults;
  }

module _ {X : Type 0} (source : ShownSource X) (n0 : ℕ) (was mid now : X) (frames : List Frame) (old new : Followed) (before after : Tally) where
  -- what is next is the first stop
  pub followed_up_to : (stop : Stop) → HasGoneOn source frames n0 was mid old before → Stops source stop mid now old new before after → WasFollowed source stop n0 was now new after
  followed_up_to stop so stops =
      let many = length (applied n0 frames) in
      let seq : length old.tried ≡ many = ap length so.tried ∙ length-tries 0 (applied n0 frames) in
      record {
        frames = frames;
        part = stops.part;
        entries = stops.entries;
        tries = stops.tries;
        of_words = so.of_words;
        read = Consumes-trans _ _ _ (bytes_of_all frames) stops.part so.read stops.read;
        stopped = stopped_since source (length (bytes_of_all frames)) stops.part was mid now so.gave (n0 + many) many stop stops.entries stops.tries
            (subst (λ (z : ℕ × ℕ × ℕ). HasStopped source z.0 stops.part mid now z.1 z.2 stop stops.entries stops.tries) (λ i. (so.tally_is.bytes_is i, so.count_is i, seq i)) stops.stopped);
        history = stops.history ∙ ap (λ (es : List Entry). es ++ stops.entries) so.history;
        tried = stops.tried ∙ ap (λ (ts : List Told). ts ++ stops.tries) so.tried;
        tally_is = subst (IsTallyOfFrames n0 frames) (sym stops.tally) so.tally_is;
        asked_once = asked_since source (length (bytes_of_all frames)) stops.part was mid now so.gave stops.asked_once;
      }
