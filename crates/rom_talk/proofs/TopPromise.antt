-- How talks end, whether there is a heap to talk to or not.
use Rattle.std.specs.Prelude.{◌≡◌, ◌⊎◌, ◌≤◌, ℕ, List, Some, None, IsTrue, codes}
use Rattle.std.proofs.Common.{refl, ap, arith, inl, inr}
use Rattle.rom_model.specs.Earlier.{Earlier}
use Rattle.rom_model.specs.Faults.{Rose}
use Rattle.rom_model.specs.History.{LAST_COUNT}
use Rattle.rom_model.specs.Machine.{Machine, on_words}
use Rattle.rom_model.specs.declared.line.Step.{Step}
use Rattle.rom_model.specs.declared.unfit.Unfit.{Unfit}
use Rattle.rom_device.specs.Device.{ShownDevice}
use Rattle.rom_text.specs.Runs.{IsLineWrittenOrCutShort}
use Rattle.rom_text.specs.Streams.{ShownSink, StopsWriting}
use Rattle.rom_text.specs.Text.{Texts}
use Rattle.rom_hear.specs.Peers.{ShownPeer}
use Rattle.rom_open.specs.declared.reasons.Why.{Why}
use Rattle.rom_rule.specs.Views.{base_of}
use Rattle.rom_store.specs.Callers.{Caller}
use Rattle.rom_store.specs.Closing.{ClosedSeen}
use Rattle.rom_store.specs.Openings.{HasBeenRefused, HasOpenedHeap, Started}
use Rattle.rom_store.specs.Playing.{HasPlayed}
use Rattle.rom_store.proofs.Lasting.{has_lasted}
use Rattle.rom_run.specs.Complete.{IsRefusedByName}
use Rattle.rom_run.specs.Played.{AreAnswered}
use Rattle.rom_run.specs.Refusing.{refusal_line, refusal_status}
use Rattle.rom_run.specs.Statuses.{exit_number}
use Rattle.rom_run.specs.Working.{HasNone, HasSession, IsDeviceKept}
use Rattle.rom_run.specs.declared.heap.Heap.TheVariants.{Standing}
use Rattle.rom_run.specs.declared.status.Status.TheVariants.{DeviceFailed, HeapRefused, NoMemory}
use Rattle.rom_open.specs.declared.reasons.Why.TheVariants.{OutOfMemory}
use Rattle.rom_run.proofs.Accepted.{at_hand, begins, by_name}
use Rattle.rom_run.proofs.Completing.{faulted_rose, few, once_rose}
use Rattle.rom_run.proofs.Lasting.{session_lasts}
use Rattle.rom_run.proofs.Sessions.{standing_session}
use Rattle.rom_run.proofs.Showing.{none_opened, refusal_ends}
use Rattle.rom_run.proofs.Uncalled.{kept_uncalled, none_uncalled}
use Rattle.rom_talk.specs.Promise.{NoneFailed, TalkPromise}
use Rattle.rom_talk.specs.Sessions.{IsTalkedOn, as_results, as_scripts}
use Rattle.rom_talk.specs.Talks.{HaveTalked}
use Rattle.rom_talk.proofs.TopEnding.{all_stay, some_unheard, some_unsaid, talk_ends, talk_faulted, talk_unheard, talk_unsaid}
use Rattle.rom_talk.proofs.TopPlayed.{of_talks, opened_played}

module _ {S C Q R A D P K : Type 0} (machine : Machine S C Q R A) (Contents : ℕ → List ℕ → S → ℕ → Type 0) (kind : ℕ) (Rejects : ℕ → List ℕ → Unfit → Type 0) (earlier : Earlier S) (shown : ShownDevice D) (peer : ShownPeer Caller P) (sink : ShownSink K) (texts : Texts R A) (Reads : List ℕ → Step C Q → Type 0) where
  -- Where there is no heap to talk to, the status is that of a heap that is refused (3), of no memory (6), or of a device that failed (7).
  module _ (was now : D) (peers : List P) (old new : K) (why : Why) (none : HasNone machine Contents shown sink kind Rejects earlier Standing was now old new (exit_number (refusal_status why))) where
    numbers : (exit_number (refusal_status why) ≡ 3) ⊎ (exit_number (refusal_status why) ≡ 6) ⊎ (exit_number (refusal_status why) ≡ 7)
    numbers = go (refusal_ends why)
      where
        go : (refusal_status why ≡ HeapRefused) ⊎ (refusal_status why ≡ NoMemory) ⊎ (refusal_status why ≡ DeviceFailed) → (exit_number (refusal_status why) ≡ 3) ⊎ (exit_number (refusal_status why) ≡ 6) ⊎ (exit_number (refusal_status why) ≡ 7)
        go (inl is) = inl (ap exit_number is)
        go (inr (inl is)) = inr (inl (ap exit_number is))
        go (inr (inr is)) = inr (inr (ap exit_number is))

    failed : exit_number (refusal_status why) ≡ 7 → Rose (shown.faults was) (shown.faults now)
    failed is = once_rose _ _ (none.device_failed is).failed.once

    ends_refused : (n : ℕ) → (n ≡ 3) ⊎ (n ≡ 6) ⊎ (n ≡ 7) → (n ≡ 7 → ⊥) → (n ≡ 3) ⊎ (n ≡ 6)
    ends_refused n (inl is) not = inl is
    ends_refused n (inr (inl is)) not = inr is
    ends_refused n (inr (inr is)) not = absurd (not is)

    ends_whole : (n : ℕ) → (n ≡ 3) ⊎ (n ≡ 6) ⊎ (n ≡ 7) → (n ≡ 3 → ⊥) → (n ≡ 7 → ⊥) → (n ≡ 0) ⊎ (n ≡ 1) ⊎ (n ≡ 6)
    ends_whole n (inl is) first second = absurd (first is)
    ends_whole n (inr (inl is)) first second = inr (inr is)
    ends_whole n (inr (inr is)) first second = absurd (second is)

    ends_talk : (n : ℕ) → (n ≡ 3) ⊎ (n ≡ 6) ⊎ (n ≡ 7) → (n ≡ 0) ⊎ (n ≡ 1) ⊎ (n ≡ 3) ⊎ (n ≡ 4) ⊎ (n ≡ 5) ⊎ (n ≡ 6) ⊎ (n ≡ 7)
    ends_talk n (inl is) = inr (inr (inl is))
    ends_talk n (inr (inl is)) = inr (inr (inr (inr (inr (inl is)))))
    ends_talk n (inr (inr is)) = inr (inr (inr (inr (inr (inr is)))))

    named : (tells : IsTrue shown.tells_words) → exit_number (refusal_status why) ≡ 3 → IsRefusedByName Contents Rejects earlier Standing (shown.words was)
    named tells is = by_name Contents Rejects earlier shown was tells kind sink now old new Standing (none.heap_refused is)

    pub promise_without : IsDeviceKept shown Standing was now → StopsWriting sink old new → sink.rest new ≡ sink.rest old →
        TalkPromise machine Contents kind Rejects earlier shown peer sink texts Reads was now peers peers old new (exit_number (refusal_status why)) None
    promise_without kept writing rest = record {
      statuses = ends_talk _ numbers;
      met = λ met. let number = numbers in absurd (omega (arith, number, met));
      not_met = λ not_met. refl;
      story = tt;
      lasting = tt;
      told_lasts = tt;
      few_faults = tt;
      none = λ is. none;
      unmet = λ is. refl;
      unprinted = λ some. absurd (let no : ⊥ = cc in no);
      kept = kept;
      refused = λ tells. record {
        only = named tells;
        always = λ refused unfailed. ends_refused _ numbers (λ seven. unfailed (failed seven));
      };
      complete = λ tells holds none_failed.
          ends_whole _ numbers (λ three. begins Contents Rejects earlier Standing (shown.words was) tt holds (named tells three)) (λ seven. none_failed.of_device (failed seven));
      peers = all_stay peer peers;
      writing = writing;
      rest = rest;
    }

  -- the heap was not opened
  pub promise_refused : (was now : D) (peers : List P) (old new : K) (why : Why) → HasBeenRefused shown Contents Rejects was now why → IsLineWrittenOrCutShort sink old new (refusal_line kind why) → StopsWriting sink old new → sink.rest new ≡ sink.rest old →
      TalkPromise machine Contents kind Rejects earlier shown peer sink texts Reads was now peers peers old new (exit_number (refusal_status why)) None
  promise_refused was now peers old new why failed told writing rest =
      promise_without was now peers old new why
      (none_opened machine Contents shown sink kind Rejects earlier was now old new why failed.refused failed.sizes failed.faults failed.images failed.calls failed.within told)
      (record { size = failed.size; outside = failed.outside; spared = tt }) writing rest

  -- There was no memory for the callers, and the device was not called.
  pub promise_unmet : (was : D) (peers : List P) (old new : K) → IsLineWrittenOrCutShort sink old new (codes "no memory") → StopsWriting sink old new → sink.rest new ≡ sink.rest old →
      TalkPromise machine Contents kind Rejects earlier shown peer sink texts Reads was was peers peers old new 6 None
  promise_unmet was peers old new told writing rest =
      promise_without was was peers old new OutOfMemory
      (none_uncalled shown was machine Contents sink kind Rejects earlier old new 6 (λ three. omega (arith, three)) (λ seven. omega (arith, seven)) (λ six. told) Standing)
      (kept_uncalled shown was Standing) writing rest

  -- The heap was opened, and the peers talked to it.
  module _ (few_counted : (order : ℕ) (words : List ℕ) (s : S) (k : ℕ) → Contents order words s k → k ≤ LAST_COUNT) (only_now : (d : D) (i : List ℕ) → IsTrue shown.tells_images → shown.left_since d (shown.clock d) i → shown.leaves d i)
      (was : D) (o : Started D) (before after : List P) (status : ℕ) (closed : ClosedSeen D) (opened : HasOpenedHeap shown Contents was o) (talked : IsTalkedOn machine Contents shown peer texts Reads (base_of o.key) o.device before after status closed) where
    played : HasPlayed shown machine Contents (as_scripts talked.talks.steps) (as_results talked.talks.results) was closed
    played = opened_played machine Contents shown (as_scripts talked.talks.steps) (as_results talked.talks.results) was o closed opened talked.played

    session : HasSession machine Contents shown Standing was closed.device (HaveTalked machine Contents shown peer texts Reads before after closed.device status) closed.session
    session =
        let t = talked.talks in
        let p = played in
        let s = standing_session shown machine Contents (as_scripts t.steps) (as_results t.results) was closed few_counted p.faults p.session p.held p.fits p.since in
        record {
          story = s.story;
          each = s.each;
          told = λ story is. record {
            steps = t.steps;
            results = t.results;
            endings = t.endings;
            answered = of_talks (λ xs ys. AreAnswered machine xs ys closed.session.callers story) t.steps t.results (s.told story is);
            talks = t.talks story is;
            status_is = t.status_is;
          };
          certain = s.certain;
        }

    ends_one : (n : ℕ) → (n ≡ 0) ⊎ (n ≡ 1) ⊎ (n ≡ 4) ⊎ (n ≡ 5) ⊎ (n ≡ 7) → (n ≡ 0) ⊎ (n ≡ 1) ⊎ (n ≡ 3) ⊎ (n ≡ 4) ⊎ (n ≡ 5) ⊎ (n ≡ 6) ⊎ (n ≡ 7)
    ends_one n (inl is) = inl is
    ends_one n (inr (inl is)) = inr (inl is)
    ends_one n (inr (inr (inl is))) = inr (inr (inr (inl is)))
    ends_one n (inr (inr (inr (inl is)))) = inr (inr (inr (inr (inl is))))
    ends_one n (inr (inr (inr (inr is)))) = inr (inr (inr (inr (inr (inr is)))))

    ends_well : (n : ℕ) → (n ≡ 0) ⊎ (n ≡ 1) ⊎ (n ≡ 4) ⊎ (n ≡ 5) ⊎ (n ≡ 7) → (n ≡ 4 → ⊥) → (n ≡ 5 → ⊥) → (n ≡ 7 → ⊥) → (n ≡ 0) ⊎ (n ≡ 1) ⊎ (n ≡ 6)
    ends_well n (inl is) four five seven = inl is
    ends_well n (inr (inl is)) four five seven = inr (inl is)
    ends_well n (inr (inr (inl is))) four five seven = absurd (four is)
    ends_well n (inr (inr (inr (inl is)))) four five seven = absurd (five is)
    ends_well n (inr (inr (inr (inr is)))) four five seven = absurd (seven is)

    statuses : (status ≡ 0) ⊎ (status ≡ 1) ⊎ (status ≡ 4) ⊎ (status ≡ 5) ⊎ (status ≡ 7)
    statuses = let t = talked.talks in talk_ends t.endings t.results status t.status_is

    module _ (old new : K) (none : NoneFailed shown peer sink was closed.device before after old new) where
      not_seven : status ≡ 7 → ⊥
      not_seven is =
          let t = talked.talks in
          let of = session.story.1 in
          none.of_device (faulted_rose machine Contents shown was closed.device Standing session.story.0 (session.each session.story.0 of).faults t.steps t.results (t.lawful session.story.0 of) (talk_faulted t.endings t.results status t.status_is is))

      not_five : status ≡ 5 → ⊥
      not_five is =
          let t = talked.talks in
          let at = some_unsaid peer machine Contents shown texts Reads session.story.0 closed.device before after t.endings t.steps t.results (t.talks session.story.0 session.story.1) (talk_unsaid t.endings t.results status t.status_is is) in
          (none.of_peers at.0 at.1 at.2 at.3 at.4).1 at.5

      not_four : status ≡ 4 → ⊥
      not_four is =
          let t = talked.talks in
          let at = some_unheard peer machine Contents shown texts Reads session.story.0 closed.device before after t.endings t.steps t.results (t.talks session.story.0 session.story.1) (talk_unheard t.endings t.results status t.status_is is) in
          (none.of_peers at.0 at.1 at.2 at.3 at.4).0 at.5

    -- its heap is not refused by name
    unrefused : IsTrue shown.tells_words → IsRefusedByName Contents Rejects earlier Standing (shown.words was) → ⊥
    unrefused tells refused =
        begins Contents Rejects earlier Standing (shown.words was) tt (at_hand Contents Rejects earlier shown was tells machine Standing session.story.0 (session.each session.story.0 session.story.1).opening) refused

    pub promise_talked : (out : K) → TalkPromise machine Contents kind Rejects earlier shown peer sink texts Reads was closed.device before after out out status (Some closed.session)
    promise_talked out = record {
      statuses = ends_one status statuses;
      met = λ met. refl;
      not_met = λ not_met. let number = statuses in absurd (omega (arith, number, not_met));
      story = session;
      lasting = λ story of. has_lasted shown Contents (on_words machine) story only_now closed.device;
      told_lasts = session_lasts machine Contents shown closed.device only_now was _ Standing closed.session session;
      few_faults = λ story of. few machine Contents shown was closed.device Standing story (session.each story of).faults;
      none = λ none. absurd (let no : ⊥ = cc in no);
      unmet = λ none. absurd (let no : ⊥ = cc in no);
      unprinted = λ some. refl;
      kept = let p = played in record { size = p.size; outside = p.outside; spared = tt };
      refused = λ tells. record {
        only = λ three. let number = statuses in absurd (omega (arith, number, three));
        always = λ refused unfailed. absurd (unrefused tells refused);
      };
      complete = λ tells holds none. ends_well status statuses (not_four out out none) (not_five out out none) (not_seven out out none);
      peers = talked.talks.keeps;
      writing = inl refl;
      rest = refl;
    }
