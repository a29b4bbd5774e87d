-- What a message's answer makes of its turn.
use Rattle.std.proofs.Common.{◌≡◌, ◌⊎◌, ℕ, zero, suc, ◌+◌, ◌==◌, ◌<◌, ◌≤◌, nat_lt, Bool, true, false, if◌then◌else◌, List, [], ◌∷◌, ◌++◌, Option, length, inl, inr, refl, sym, ap, ◌∙◌, subst, arith, append-nil}
use Rattle.std.specs.Io.KnownBytes.{Consumes}
use Rattle.std.proofs.lemmas.Bool.{eq-eqb, ne_eqb, lt-ltb, le-ltb}
use Rattle.rom_model.specs.Codes.{reply_words}
use Rattle.rom_model.specs.History.{LAST_COUNT}
use Rattle.rom_model.specs.declared.call.Updated.{Updated}
use Rattle.rom_model.specs.declared.call.Updated.TheVariants as updated
use Rattle.rom_rule.specs.Views.{Told}
use Rattle.rom_text.specs.Streams.{IsAskedOnce, ShownSource}
use Rattle.rom_frame.specs.Messages.{IsMessageHeard}
use Rattle.rom_frame.specs.declared.stream.message.MessageKind.TheVariants as kind
use Rattle.rom_frame.specs.declared.frame.Frame.{Frame}
use Rattle.rom_follow.specs.Followed.{Followed}
use Rattle.rom_follow.specs.Taking.{IsFrame, IsNoFrame, TakesFrame, TakesNextFrame, doing, entry_at, failing, found_at}
use Rattle.rom_follow.specs.declared.taken.MessageTaken.{MessageTaken}
use Rattle.rom_follow.specs.declared.taken.MessageTaken.TheVariants as taken
use Rattle.rom_replica.specs.Stops.{HasStopped, IsAtCount}
use Rattle.rom_replica.specs.Tallied.{AddsToTally, CountsFrames, GoesOn, Stops, Turn}
use Rattle.rom_replica.specs.Turns.{early, known}
use Rattle.rom_replica.specs.declared.stop.Stop.{Stop}
use Rattle.rom_replica.specs.declared.stop.Stop.TheVariants.{Broken, DeviceFailed}
use Rattle.rom_replica.specs.declared.tally.Tally.{Tally}

-- a number is below another, above it, or it
three_ways : (a b : ℕ) → (a < b) ⊎ (b < a) ⊎ (a ≡ b)
three_ways zero zero = inr (inr refl)
three_ways zero (suc b) = inl (omega arith)
three_ways (suc a) zero = inr (inl (omega arith))
three_ways (suc a) (suc b) = next (three_ways a b)
  where
    next : (a < b) ⊎ (b < a) ⊎ (a ≡ b) → (suc a < suc b) ⊎ (suc b < suc a) ⊎ (suc a ≡ suc b)
    next (inl is) = inl (omega (arith, is))
    next (inr (inl is)) = inr (inl (omega (arith, is)))
    next (inr (inr is)) = inr (inr (ap suc is))

one_if : {A : Type 0} (x : A) (b : Bool) → length ((if b then x ∷ [] else []) ++ []) ≡ (if b then 1 else 0)
one_if x true = refl
one_if x false = refl

module _ {X : Type 0} (source : ShownSource X) (was now : X) (part : List ℕ) (read : Consumes (source.left was) (source.left now) part) (asked : IsAskedOnce source was now) where
  -- what leaves the follower as it was is a stop
  pub stops_silent : (stop : Stop) (f : Followed) (t : Tally) → HasStopped source t.bytes part was now f.count (length f.tried) stop [] [] → Stops source stop was now f f t t
  stops_silent stop f t stopped = record {
    part = part;
    entries = [];
    tries = [];
    read = read;
    stopped = stopped;
    history = sym (append-nil f.history);
    tried = sym (append-nil f.tried);
    tally = refl;
    asked_once = asked;
  }

  module _ (old new : Followed) (before after : Tally) (heard : IsMessageHeard source before.bytes part was now kind.Whole) where
    -- a frame is counted by its place
    goes : (f : Frame) → IsFrame f part → (b k e : Bool) → (f.place == old.count) ≡ b → nat_lt f.place old.count ≡ k → nat_lt old.count f.place ≡ e →
        new ≡ (if b then doing old f.call f.reply else old) →
        CountsFrames (if b then 1 else 0) (if k then 1 else 0) (if e then 1 else 0) (length part) before after →
        GoesOn source was now old new before after
    goes f is b k e at below above same adds = record {
      next = f;
      of_words = is.0;
      read = subst (λ (xs : List ℕ). Consumes (source.left was) (source.left now) xs) is.1 read;
      gave = heard.2;
      follower = same ∙ ap (λ (z : Bool). if z then doing old f.call f.reply else old) (sym at);
      counts = record {
        applied_is = adds.applied_is ∙ ap (λ (n : ℕ). before.applied + n) (sym (ap (λ (z : Bool). length ((if z then f ∷ [] else []) ++ [])) at ∙ one_if f b));
        known_is = adds.known_is ∙ ap (λ (z : Bool). before.known + (if z then 1 else 0)) (sym below) ∙ (let z : before.known + (if nat_lt f.place old.count then 1 else 0) ≡ before.known + known old.count (f ∷ []) = omega arith in z);
        early_is = adds.early_is ∙ ap (λ (z : Bool). before.early + (if z then 1 else 0)) (sym above) ∙ (let z : before.early + (if nat_lt old.count f.place then 1 else 0) ≡ before.early + early old.count (f ∷ []) = omega arith in z);
        bytes_is = adds.bytes_is ∙ ap (λ (xs : List ℕ). before.bytes + length xs) is.1;
      };
    }

    -- what comes of the frame whose place is the count
    module _ (f : Frame) (is : IsFrame f part) (at : f.place ≡ old.count) where
      at_count : IsAtCount source before.bytes part was now old.count (length old.tried) f
      at_count = record { heard = heard; is = is; place = at }

      not_below : nat_lt f.place old.count ≡ false
      not_below = le-ltb f.place old.count (omega (arith, at))

      not_above : nat_lt old.count f.place ≡ false
      not_above = le-ltb old.count f.place (omega (arith, at))

      -- it was not done, for want of a device that does not fail
      failed : (told : Updated (List ℕ)) → (told ≡ updated.Failed) ⊎ (told ≡ updated.Doubt) → new ≡ failing old f.call told → after ≡ before → Stops source DeviceFailed was now old new before after
      failed told why same kept = record {
        part = part;
        entries = [];
        tries = (found_at (length old.tried) f.call, told) ∷ [];
        read = read;
        stopped = record {
          next = f;
          at_count = at_count;
          none = refl;
          told = by why;
        };
        history = ap (λ (z : Followed). z.history) same ∙ sym (append-nil old.history);
        tried = ap (λ (z : Followed). z.tried) same;
        tally = kept;
        asked_once = asked;
      }
        where
          this : Updated (List ℕ) → List Told
          this u = (found_at (length old.tried) f.call, u) ∷ []

          by : (told ≡ updated.Failed) ⊎ (told ≡ updated.Doubt) → (this told ≡ this updated.Failed) ⊎ (this told ≡ this updated.Doubt)
          by (inl one) = inl (ap this one)
          by (inr one) = inr (ap this one)

      next_turn : (answer : MessageTaken) (stop : Option Stop) → TakesNextFrame f old answer new → length old.tried ≤ old.count → new.count ≤ LAST_COUNT → AddsToTally answer (length part) before after stop → Turn source stop was now old new before after
      next_turn (taken.Applied place) stop gives many within adds =
          subst (λ (z : Option Stop). Turn source z was now old new before after) (sym adds.1)
          (goes f is true false false (eq-eqb f.place old.count at) not_below not_above gives.1 adds.0)
      next_turn (taken.Diverged place ours theirs) stop gives many within adds =
          subst (λ (z : Option Stop). Turn source z was now old new before after) (sym adds.1) record {
            part = part;
            entries = entry_at (length old.tried) f.call ours ∷ [];
            tries = (found_at (length old.tried) f.call, updated.Done (reply_words ours) old.count) ∷ [];
            read = read;
            stopped = record {
              next = f;
              at_count = at_count;
              ours = ours;
              otherwise = λ same. gives.2 (ap reply_words (same ∙ sym gives.1));
              done = refl;
              told = ap (λ (n : ℕ). (found_at (length old.tried) f.call, updated.Done (reply_words ours) n) ∷ []) (sym at);
            };
            history = ap (λ (z : Followed). z.history) gives.3;
            tried = ap (λ (z : Followed). z.tried) gives.3;
            tally = adds.0;
            asked_once = asked;
          }
      next_turn taken.Spent stop (inl gives) many within adds =
          subst (λ (z : Option Stop). Turn source z was now old new before after) (sym adds.1) record {
            part = part;
            entries = [];
            tries = (found_at (length old.tried) f.call, updated.Spent) ∷ [];
            read = read;
            stopped = record { next = f; at_count = at_count; last = gives.0; none = refl; told = inl refl };
            history = ap (λ (z : Followed). z.history) gives.1 ∙ sym (append-nil old.history);
            tried = ap (λ (z : Followed). z.tried) gives.1;
            tally = adds.0;
            asked_once = asked;
          }
      next_turn taken.Spent stop (inr gives) many within adds =
          subst (λ (z : Option Stop). Turn source z was now old new before after) (sym adds.1) record {
            part = part;
            entries = [];
            tries = [];
            read = read;
            stopped = record { next = f; at_count = at_count; last = omega (arith, at, gives.0, many, within, ap (λ (z : Followed). z.count) gives.1); none = refl; told = inr (refl, gives.0) };
            history = ap (λ (z : Followed). z.history) gives.1 ∙ sym (append-nil old.history);
            tried = ap (λ (z : Followed). z.tried) gives.1 ∙ sym (append-nil old.tried);
            tally = adds.0;
            asked_once = asked;
          }
      next_turn taken.Failed stop gives many within adds =
          subst (λ (z : Option Stop). Turn source z was now old new before after) (sym adds.1) (failed updated.Failed (inl refl) gives adds.0)
      next_turn taken.Doubt stop gives many within adds =
          subst (λ (z : Option Stop). Turn source z was now old new before after) (sym adds.1) (failed updated.Doubt (inr refl) gives adds.0)
      next_turn (taken.Known place) stop gives many within adds = absurd gives
      next_turn (taken.Early place want) stop gives many within adds = absurd gives
      next_turn taken.NotAFrame stop gives many within adds = absurd gives

    known_turn : (f : Frame) → IsFrame f part → (answer : MessageTaken) (stop : Option Stop) → f.place < old.count → answer ≡ taken.Known f.place → new ≡ old → AddsToTally answer (length part) before after stop → Turn source stop was now old new before after
    known_turn f is answer stop below answered same adds =
        let counts = subst (λ (z : MessageTaken). AddsToTally z (length part) before after stop) answered adds in
        subst (λ (z : Option Stop). Turn source z was now old new before after) (sym counts.1)
        (goes f is false true false (ne_eqb f.place old.count (λ at. omega (arith, at, below))) (lt-ltb f.place old.count below) (le-ltb old.count f.place (omega (arith, below))) same counts.0)

    early_turn : (f : Frame) → IsFrame f part → (answer : MessageTaken) (stop : Option Stop) → old.count < f.place → answer ≡ taken.Early f.place old.count → new ≡ old → AddsToTally answer (length part) before after stop → Turn source stop was now old new before after
    early_turn f is answer stop above answered same adds =
        let counts = subst (λ (z : MessageTaken). AddsToTally z (length part) before after stop) answered adds in
        subst (λ (z : Option Stop). Turn source z was now old new before after) (sym counts.1)
        (goes f is false false true (ne_eqb f.place old.count (λ at. omega (arith, at, above))) (le-ltb f.place old.count (omega (arith, above))) (lt-ltb old.count f.place above) same counts.0)

    -- a message that is no frame is a stop
    no_frame_turn : IsNoFrame part → (answer : MessageTaken) (stop : Option Stop) → answer ≡ taken.NotAFrame → new ≡ old → AddsToTally answer (length part) before after stop → Turn source stop was now old new before after
    no_frame_turn none answer stop answered same adds =
        let counts = subst (λ (z : MessageTaken). AddsToTally z (length part) before after stop) answered adds in
        subst (λ (z : Option Stop × Followed × Tally). Turn source z.0 was now old z.1 before z.2) (λ i. (sym counts.1 i, sym same i, sym counts.0 i))
        (stops_silent Broken old before (inr (heard, none), refl, refl))

    -- the turn of a whole message, by what the follower answers
    pub whole_turn : (answer : MessageTaken) (stop : Option Stop) → ((f : Frame) × IsFrame f part) ⊎ IsNoFrame part → (IsNoFrame part → (answer ≡ taken.NotAFrame) × (new ≡ old)) → ((f : Frame) → IsFrame f part → TakesFrame f old answer new) →
        length old.tried ≤ old.count → new.count ≤ LAST_COUNT → AddsToTally answer (length part) before after stop → Turn source stop was now old new before after
    whole_turn answer stop (inr none) silent gives many within adds = let s = silent none in no_frame_turn none answer stop s.0 s.1 adds
    whole_turn answer stop (inl (f, is)) silent gives many within adds = by (three_ways f.place old.count)
      where
        by : (f.place < old.count) ⊎ (old.count < f.place) ⊎ (f.place ≡ old.count) → Turn source stop was now old new before after
        by (inl below) = let g = (gives f is).known below in known_turn f is answer stop below g.0 g.1 adds
        by (inr (inl above)) = let g = (gives f is).early above in early_turn f is answer stop above g.0 g.1 adds
        by (inr (inr at)) = next_turn f is at answer stop ((gives f is).next at) many within adds
