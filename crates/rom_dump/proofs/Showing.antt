-- What is shown of a heap that was seen, and what is told of one that was not.
use Rattle.std.proofs.Common.{◌≡◌, inl, inr, ℕ, ◌+◌, ◌*◌, ◌≤◌, List, [], ◌++◌, sym, ◌∙◌, ap, subst, append-nil, append_assoc}
use Rattle.std.specs.Prelude.{IsTrue, slice_index, Option, None, Some, Result, Ok, Err}
use Rattle.rom_model.specs.declared.unfit.Unfit.{Unfit}
use Rattle.rom_device.specs.Device.{ShownDevice}
use Rattle.rom_header.specs.Headers.{state_word}
use Rattle.rom_header.specs.Layout.{STATE, words_needed}
use Rattle.rom_header.specs.Regions.{IsCurrentRegion}
use Rattle.rom_header.specs.declared.header.State.{State}
use Rattle.rom_carry.specs.Carried.{AreWritten}
use Rattle.rom_carry.proofs.Parts.{part_fits, parts_whole}
use Rattle.rom_open.specs.Calls.{HasOpeningFaults}
use Rattle.rom_open.specs.Refusals.{IsRefusal, NamesTooFew, named_order}
use Rattle.rom_open.specs.View.{IsNamedRegion, IsRefusalOf}
use Rattle.rom_open.specs.declared.reasons.Why.{Why}
use Rattle.rom_open.specs.declared.reasons.Why.TheVariants.{OutOfMemory}
use Rattle.rom_open.specs.declared.view.alone.Region.{Region}
use Rattle.rom_run.specs.Refusing.{refusal_line, refusal_status}
use Rattle.rom_run.specs.Statuses.{exit_number}
use Rattle.rom_run.specs.declared.status.Status.{Status}
use Rattle.rom_text.specs.Runs.{IsLineWrittenOrCutShort}
use Rattle.rom_text.specs.Streams.{Prints, ShownSink, StopsWriting}
use Rattle.rom_dump.specs.Shown.{EndsAsScript, IsAnsweredBy, IsPutAgain, IsRegionPrinted, IsWrittenOrCutShort, Telling, alone_text, counting_text}
use Rattle.rom_dump.specs.Words.{DumpCommand}

pub three_pieces : (a n b : List ℕ) → a ++ (n ++ (b ++ [])) ≡ a ++ n ++ b
three_pieces a n b = ap (λ t. a ++ (n ++ t)) (append-nil b) ∙ sym (append_assoc a n b)

module _ {K : Type 0} (sink : ShownSink K) where
  -- a text that was printed, whatever became of it
  pub put : {T E : Type 0} (old new : K) (r : Result T E) (text : List ℕ) → Prints sink old new r text → IsWrittenOrCutShort sink old new text
  put old new (Ok v) text p = inl (p.bytes, p.cause.none)
  put old new (Err e) text p = inr (p.bytes, p.cause.failed)

  -- so its writing stopped at a fault, if there was one
  pub put_stops : (old new : K) (text : List ℕ) → IsWrittenOrCutShort sink old new text → StopsWriting sink old new
  put_stops old new text (inl written) = inl written.1
  put_stops old new text (inr short) = inr short.1

module _ {K : Type 0} (sink : ShownSink K) (telling : Telling) where
  pub put_again : (order : ℕ) (region : List ℕ) (lines : List (List ℕ)) (part : Option ℕ) (old new : K) (status : ℕ) → telling.Carrying order region lines → AreWritten telling.bounds lines → telling.bounds.part * (telling.bounds.longest + 1) ≤ 1048576 → telling.bounds.part ≤ 131072 → EndsAsScript sink telling.bounds.part part lines old new status → IsPutAgain sink telling order region part old new status
  put_again order region lines part old new status carrying written room few printed = record {
    lines = lines;
    carrying = carrying;
    written = written;
    parts = parts_whole telling.bounds lines written.few;
    fit = λ number. part_fits telling.bounds number lines written room few;
    printed = printed;
  }

module _ {D K S : Type 0} (shown : ShownDevice D) (sink : ShownSink K) (Contents : ℕ → List ℕ → S → ℕ → Type 0) (Rejects : ℕ → List ℕ → Unfit → Type 0) (telling : Telling) (was now : D) (old new : K) (asked : DumpCommand) where
  pub is_shown : (n : ℕ) (kind : State) (region : List ℕ) (status : ℕ) → (s : S) × (k : ℕ) × Contents n region s k → (IsTrue shown.tells_words → IsCurrentRegion n (shown.words was) region)
      → (IsTrue shown.tells_words → slice_index (shown.words was) STATE ≡ state_word kind) → words_needed n ≤ shown.size was → shown.faults now ≡ shown.faults was → IsRegionPrinted sink telling asked (state_word kind) (counting_text kind) n region old new status → IsAnsweredBy shown sink Contents Rejects telling None asked was now old new status
  is_shown n kind region status stands current named fits faults printed = inl record {
    order = n;
    kind = kind;
    region = region;
    current = current;
    stands = stands;
    named = named;
    fits = fits;
    faults = faults;
    printed = printed;
  }

  pub is_refused : (why : Why) (status : Status) → status ≡ refusal_status why → (IsTrue shown.tells_words → IsRefusal Contents Rejects (shown.words was) why) → NamesTooFew (shown.size was) why → HasOpeningFaults {T = Unit {0}} (Err why) (shown.faults was) (shown.faults now) (shown.failing now)
      → IsLineWrittenOrCutShort sink old new (refusal_line telling.kind why) → IsAnsweredBy shown sink Contents Rejects telling None asked was now old new (exit_number status)
  is_refused why status is refused sizes faults told = inr record { why = why; status_is = ap exit_number is; refused = refused; sizes = sizes; faults = faults; told = told }

  -- there was no memory for what a script needs
  pub no_memory : (n : ℕ) (region : List ℕ) (status : Status) → status ≡ refusal_status OutOfMemory → (IsTrue shown.tells_words → IsCurrentRegion n (shown.words was) region) → shown.faults now ≡ shown.faults was → IsLineWrittenOrCutShort sink old new (refusal_line telling.kind OutOfMemory)
      → IsAnsweredBy shown sink Contents Rejects telling None asked was now old new (exit_number status)
  no_memory n region status is current faults told = is_refused OutOfMemory status is
      (λ tells. let c = current tells in let e : n ≡ named_order (shown.words was) = sym c.heap.header.order_is in inr (region, subst (λ (m : ℕ). IsCurrentRegion m (shown.words was) region) e c, tt)) tt faults told

  module _ (name : Region) where
    pub alone_shown : (n : ℕ) (region : List ℕ) (status : ℕ) → (s : S) × (k : ℕ) × Contents n region s k → (IsTrue shown.tells_words → IsNamedRegion name n (shown.words was) region) → words_needed n ≤ shown.size was → shown.faults now ≡ shown.faults was
        → IsRegionPrinted sink telling asked 0 (alone_text name) n region old new status → IsAnsweredBy shown sink Contents Rejects telling (Some name) asked was now old new status
    alone_shown n region status stands is fits faults printed = inl record {
      order = n;
      region = region;
      is = is;
      stands = stands;
      fits = fits;
      faults = faults;
      printed = printed;
    }

    pub alone_refused : (why : Why) (status : Status) → status ≡ refusal_status why → (IsTrue shown.tells_words → IsRefusalOf Contents Rejects name (shown.words was) why) → NamesTooFew (shown.size was) why → HasOpeningFaults {T = Unit {0}} (Err why) (shown.faults was) (shown.faults now) (shown.failing now)
        → IsLineWrittenOrCutShort sink old new (refusal_line telling.kind why) → IsAnsweredBy shown sink Contents Rejects telling (Some name) asked was now old new (exit_number status)
    alone_refused why status is refused sizes faults told = inr record { why = why; status_is = ap exit_number is; refused = refused; sizes = sizes; faults = faults; told = told }

    pub alone_no_memory : (n : ℕ) (region : List ℕ) (status : Status) → status ≡ refusal_status OutOfMemory → (IsTrue shown.tells_words → IsNamedRegion name n (shown.words was) region) → shown.faults now ≡ shown.faults was → IsLineWrittenOrCutShort sink old new (refusal_line telling.kind OutOfMemory)
        → IsAnsweredBy shown sink Contents Rejects telling (Some name) asked was now old new (exit_number status)
    alone_no_memory n region status is named faults told = alone_refused OutOfMemory status is
        (λ tells. let c = named tells in let e : n ≡ named_order (shown.words was) = sym c.heap.header.order_is in inr (region, subst (λ (m : ℕ). IsNamedRegion name m (shown.words was) region) e c, tt)) tt faults told
