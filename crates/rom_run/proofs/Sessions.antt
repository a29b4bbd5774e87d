-- The session of scripts that were played on a heap, and what the device of one that was to be made keeps, by what the players say.
use Rattle.std.specs.Prelude.{◌≡◌, ◌≤◌, ℕ, List, map, IsTrue, Ok}
use Rattle.rom_lines.specs.Replies.{Reserved}
use Rattle.rom_lines.specs.Steps.{Items}
use Rattle.std.proofs.Common.{ap, arith, inl, inr, subst, sym, ◌∙◌}
use Rattle.rom_model.specs.History.{LAST_COUNT}
use Rattle.rom_model.specs.Machine.{Machine, on_words}
use Rattle.rom_model.specs.Passes.{faults_after}
use Rattle.rom_model.specs.Space.{ChangesOnly}
use Rattle.rom_model.specs.Story.{Story}
use Rattle.rom_model.specs.declared.kept.Kept.{Kept}
use Rattle.rom_model.specs.declared.line.LineResult.{LineResult}
use Rattle.rom_model.specs.declared.line.Step.{Step}
use Rattle.rom_device.specs.Device.{Does, Leaves, ShownDevice, Stays}
use Rattle.rom_header.specs.Fresh.{IsFormatAnswer, IsFormatRefused}
use Rattle.rom_header.specs.Held.{Holds}
use Rattle.rom_header.specs.Layout.{words_needed}
use Rattle.rom_open.specs.Within.{HasMadeHeap, HasOpened}
use Rattle.rom_combine.specs.Session.{SessionImage}
use Rattle.rom_store.specs.Closing.{ClosedSeen}
use Rattle.rom_store.specs.Playing.{IsSession}
use Rattle.rom_store.specs.Sessions.{EachStory, IsStoryOf}
use Rattle.rom_run.proofs.Lasting.{lasts_certain}
use Rattle.rom_run.proofs.Lawful.{lawful_answers}
use Rattle.rom_run.proofs.Told.{if_told}
use Rattle.rom_run.specs.Played.{AreAnswered}
use Rattle.rom_run.specs.Working.{HasSession, IsDeviceKept}
use Rattle.rom_run.specs.declared.heap.Heap.TheVariants.{New, Standing}

-- where a heap can be made, none stands, and there are words enough
pub unrefused : (order : ℕ) (words : List ℕ) → IsFormatAnswer order words (Ok tt) → IsFormatRefused order words → ⊥
unrefused order words can (inl stands) = can.0 stands
unrefused order words can (inr short) = let long = can.1 in omega (arith, long, short)

-- the device of a heap that was to be made
pub kept_made : {D : Type 0} (shown : ShownDevice D) (order : ℕ) (was now : D) → shown.size now ≡ shown.size was → (IsTrue shown.tells_words → ChangesOnly 0 (words_needed order) (shown.words was) (shown.words now))
    → (IsTrue shown.tells_words → IsFormatRefused order (shown.words was) → Does shown Stays was now) → IsDeviceKept shown (New order) was now
kept_made shown order was now size outside spared = record { size = size; outside = outside; spared = spared }

module _ {D S C Q R A : Type 0} (shown : ShownDevice D) (machine : Machine S C Q R A) (Contents : ℕ → List ℕ → S → ℕ → Type 0) (scripts : List (Items (Step C Q))) (results : List (Reserved (LineResult R A))) (was : D) (closed : ClosedSeen D) (few : (order : ℕ) (words : List ℕ) (s : S) (k : ℕ) → Contents order words s k → k ≤ LAST_COUNT) (faults : closed.session.faults ≡ shown.faults was) where
  abbrev Answered : List Kept → Story S → Type 0
  Answered callers story = AreAnswered machine (map (λ v. v.items) scripts) (map (λ v. v.items) results) callers story

  -- the records' counts are not above the device's
  counted : (story : Story S) → IsStoryOf machine Contents closed.session story → faults_after closed.session.faults closed.session.records ≤ shown.faults closed.device → faults_after story.opening_faults story.records ≤ shown.faults closed.device
  counted story is few = let same : faults_after story.opening_faults story.records ≡ faults_after closed.session.faults closed.session.records = λ i. faults_after (is.faults_is i) (is.records i) in omega (arith, same, few)

  long_enough : (n m : ℕ) → n ≡ m → words_needed m ≤ shown.size was → words_needed n ≤ shown.size was
  long_enough n m same fits = let long : words_needed n ≡ words_needed m = ap words_needed same in omega (arith, long, fits)

  -- on a heap that was made
  pub made_session : (order : ℕ) → IsSession shown machine Contents scripts results (HasMadeHeap shown Contents order machine.empty was) closed → closed.session.order ≡ order
      → EachStory machine Contents closed.session (λ story. (story.opening ≡ machine.empty) × (story.opening_count ≡ 0)) → (IsTrue shown.tells_words → IsFormatAnswer order (shown.words was) (Ok tt)) → words_needed order ≤ shown.size was
      → HasSession machine Contents shown (New order) was closed.device Answered closed.session
  made_session order of order_is empty accepted fits = record {
    story = of.story;
    each = λ story is. record {
      opening = (if_told shown.tells_words (shown.words was) (λ words. IsFormatAnswer order words (Ok tt)) accepted, is.order_is ∙ order_is, (empty story is).0, (empty story is).1);
      fits = long_enough story.order order (is.order_is ∙ order_is) fits;
      faults = record { before = is.faults_is ∙ faults; after = counted story is of.faults; went = of.went story is };
      since = λ told. of.since told story is;
      at_end = λ told. of.now told story is;
    };
    told = λ story is. lawful_answers machine story (map (λ v. v.items) scripts) (map (λ v. v.items) results) closed.session.callers (few closed.session.order closed.session.image story.opening story.opening_count is.opening) (of.lawful story is) (of.lasts story is).left;
    certain = λ story is. lasts_certain shown Contents (on_words machine) story closed.device closed.session.callers (of.lasts story is).lasts;
  }

  -- and on one that stands
  pub standing_session : IsSession shown machine Contents scripts results (HasOpened shown closed.session.order was) closed → (IsTrue shown.tells_words → EachStory machine Contents closed.session (λ story. Holds Contents story.order (shown.words was) story.opening story.opening_count))
      → words_needed closed.session.order ≤ shown.size was → (IsTrue shown.tells_images → EachStory machine Contents closed.session (λ story. Leaves shown (SessionImage Contents (on_words machine) story) was closed.device))
      → HasSession machine Contents shown Standing was closed.device Answered closed.session
  standing_session of held fits since = record {
    story = of.story;
    each = λ story is. record {
      opening = if_told shown.tells_words (shown.words was) (λ words. Holds Contents story.order words story.opening story.opening_count) (λ told. held told story is);
      fits = long_enough story.order closed.session.order is.order_is fits;
      faults = record {
        before = is.faults_is ∙ faults;
        after = counted story is of.faults;
        went = let w = of.went story is in record { first = w.first; begun = subst (λ (n : ℕ). HasOpened shown n was w.first) (sym is.order_is) w.begun; passes = w.passes };
      };
      since = λ told. since told story is;
      at_end = λ told. of.now told story is;
    };
    told = λ story is. lawful_answers machine story (map (λ v. v.items) scripts) (map (λ v. v.items) results) closed.session.callers (few closed.session.order closed.session.image story.opening story.opening_count is.opening) (of.lawful story is) (of.lasts story is).left;
    certain = λ story is. lasts_certain shown Contents (on_words machine) story closed.device closed.session.callers (of.lasts story is).lasts;
  }
