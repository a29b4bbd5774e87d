-- Why there is no heap, as it is told.
use Rattle.std.specs.Prelude.{◌≡◌, ◌≢◌, ◌⊎◌, ℕ, Bool, List, IsTrue, codes, Result, Err}
use Rattle.std.proofs.Common.{refl, sym, ap, ◌∙◌, arith, subst, inl, inr}
use Rattle.rom_model.specs.Earlier.{Earlier}
use Rattle.rom_model.specs.Machine.{Machine}
use Rattle.rom_model.specs.declared.unfit.Unfit.{Unfit}
use Rattle.rom_device.specs.Device.{ShownDevice, Makes}
use Rattle.rom_header.specs.Calls.{format_fault, format_reads, format_syncs, format_writes}
use Rattle.rom_header.specs.Fresh.{HasTooFewFor, IsFormatAnswer}
use Rattle.rom_header.specs.declared.fresh.FormatRefused.{FormatRefused}
use Rattle.rom_header.specs.declared.fresh.FormatRefused.TheVariants as format
use Rattle.rom_text.specs.Runs.{IsLineWrittenOrCutShort}
use Rattle.rom_text.specs.Streams.{ShownSink}
use Rattle.rom_open.specs.Calls.{AreOpeningSyncs, AreOpeningWrites, HasOpeningFaults, OpeningCalls}
use Rattle.rom_open.specs.Making.{HasFaultsUnmade, IfMade, NamesTooFewFor}
use Rattle.rom_open.specs.declared.new_heap.NotFormatted.{NotFormatted}
use Rattle.rom_open.specs.declared.new_heap.NotFormatted.TheVariants as unmade
use Rattle.rom_open.specs.declared.reasons.Why.{Why}
use Rattle.rom_open.specs.declared.reasons.Why.TheVariants.{Device, OutOfMemory, Twins}
use Rattle.rom_open.specs.Refusals.{IsRefusal, NamesTooFew}
use Rattle.rom_open.specs.Within.{MakesNone, WithinMaking, WithinOpening}
use Rattle.rom_open.specs.UpgradeCalls as upgrade
use Rattle.rom_open.specs.UpgradeCalls.{HasUpgradeFaults, UpgradeCalls, WithinUpgrade}
use Rattle.rom_open.specs.Upgrading.{IsUpgradeRefusal}
use Rattle.rom_run.specs.Keeping.{HasDeviceFailed, IsLeft, IsUnmade}
use Rattle.rom_run.specs.Refusing.{HasName, refusal_line, refusal_status, unmade_line, unmade_status}
use Rattle.rom_run.specs.Statuses.{exit_number}
use Rattle.rom_run.specs.Working.{HasNone}
use Rattle.rom_run.specs.declared.heap.Heap.TheVariants.{New, Standing, Upgraded}
use Rattle.rom_run.specs.declared.status.Status.TheVariants.{DeviceFailed, HeapRefused, NoMemory}

-- a reason that is told with 3 has a name
name_of : (why : Why) → refusal_status why ≡ HeapRefused → HasName why
name_of why named = (
  λ is. let no : 3 ≡ 7 = ap exit_number (sym named ∙ ap refusal_status is) in omega (arith, no),
  λ is. let no : 3 ≡ 6 = ap exit_number (sym named ∙ ap refusal_status is) in omega (arith, no),
)

-- and is told where no call failed, or where the regions differ
unfailed_by_name : (why : Why) (before now : ℕ) (failing : Bool) → HasName why → HasOpeningFaults {T = Unit {0}} (Err why) before now failing → ((offset main back : ℕ) → why ≢ Twins offset main back) → now ≡ before
unfailed_by_name Device before now failing named faults apart = absurd (named.0 refl)
unfailed_by_name (Twins offset main back) before now failing named faults apart = absurd (apart offset main back refl)
unfailed_by_name other before now failing named faults apart = faults

-- an upgrade that is refused by name made the calls of an opening that is refused so
named_writes : (order state : ℕ) (why : Why) (before now : ℕ) → refusal_status why ≡ HeapRefused → upgrade.AreUpgradeWrites {T = Unit {0}} order state (Err why) before now → AreOpeningWrites {T = Unit {0}} order state (Err why) before now
named_writes order state Device before now named writes = let no : 7 ≡ 3 = ap exit_number named in absurd (omega (arith, no))
named_writes order state other before now named writes = writes

named_syncs : (state : ℕ) (why : Why) (before now : ℕ) → refusal_status why ≡ HeapRefused → upgrade.AreUpgradeSyncs {T = Unit {0}} state (Err why) before now → AreOpeningSyncs {T = Unit {0}} state (Err why) before now
named_syncs state Device before now named syncs = let no : 7 ≡ 3 = ap exit_number named in absurd (omega (arith, no))
named_syncs state other before now named syncs = syncs

named_calls : {D : Type 0} (shown : ShownDevice D) (words : List ℕ) (was now : D) (why : Why) → refusal_status why ≡ HeapRefused → UpgradeCalls {T = Unit {0}} shown words was now (Err why) → OpeningCalls {T = Unit {0}} shown words was now (Err why)
named_calls shown words was now why named calls = record {
  reads = calls.reads;
  writes = named_writes _ _ why _ _ named calls.writes;
  syncs = named_syncs _ why _ _ named calls.syncs;
}

module _ {D O : Type 0} (shown : ShownDevice D) (sink : ShownSink O) (was now : D) (old new : O) where
  -- a device that failed while its heap was opened
  pub opening_failed : (kind : ℕ) (why : Why) (n : ℕ) → n ≡ exit_number (refusal_status why) → n ≡ 7 →
      HasOpeningFaults {T = Unit {0}} (Err why) (shown.faults was) (shown.faults now) (shown.failing now) → IsLineWrittenOrCutShort sink old new (refusal_line kind why) → HasDeviceFailed shown sink was now old new
  opening_failed kind Device n is seven failed told = record { failed = failed; told = told }
  opening_failed kind other n is seven failed told = absurd (omega arith)

  -- or while a heap was made
  pub making_failed : (why : NotFormatted) (n order : ℕ) (reads writes syncs : Result (Unit {0}) FormatRefused → ℕ) → n ≡ exit_number (unmade_status why) → n ≡ 7 →
      IfMade (Err why) (λ made. Makes shown (reads made) (writes made) (syncs made) was now (format_fault made)) → IsLineWrittenOrCutShort sink old new (unmade_line why) → HasDeviceFailed shown sink was now old new
  making_failed (unmade.Refused format.Device) n order reads writes syncs is seven made told = record { failed = made.cause.failed; told = told }
  making_failed other n order reads writes syncs is seven made told = absurd (omega arith)

module _ {D O : Type 0} (shown : ShownDevice D) (sink : ShownSink O) (was now : D) (old new : O) (order : ℕ) where
  -- a heap that was not made for a script, as it is told
  pub refused_unmade : (why : NotFormatted) (n : ℕ) → n ≡ exit_number (unmade_status why) → n ≡ 3 →
      (IsTrue shown.tells_words → (w : FormatRefused) → why ≡ unmade.Refused w → IsFormatAnswer order (shown.words was) (Err w)) → ((w : FormatRefused) → why ≡ unmade.Refused w → HasTooFewFor order (shown.size was) w) →
      MakesNone shown order why was now → IsLineWrittenOrCutShort sink old new (unmade_line why) → IsUnmade shown sink order was now old new
  refused_unmade (unmade.Refused format.AlreadyAHeap) n is three answer sizes calls told = record { why = format.AlreadyAHeap; by_name = λ is. cc; refused = λ tells. answer tells format.AlreadyAHeap refl; sizes = tt; calls = calls; told = told }
  refused_unmade (unmade.Refused (format.TooSmall need have)) n is three answer sizes calls told = record {
    why = format.TooSmall need have;
    by_name = λ is. cc;
    refused = λ tells. answer tells (format.TooSmall need have) refl;
    sizes = sizes (format.TooSmall need have) refl;
    calls = calls;
    told = told;
  }
  refused_unmade (unmade.Refused format.Device) n is three answer sizes calls told = absurd (omega arith)
  refused_unmade unmade.OutOfMemory n is three answer sizes calls told = absurd (omega arith)

  -- or alone
  pub refused_alone : (why : NotFormatted) (n : ℕ) → n ≡ exit_number (unmade_status why) → n ≡ 3 →
      (IsTrue shown.tells_words → IfMade (Err why) (IsFormatAnswer order (shown.words was))) → IfMade (Err why) (NamesTooFewFor order (shown.size was)) →
      IfMade (Err why) (λ made. Makes shown (format_reads made) (format_writes order made) (format_syncs made) was now (format_fault made)) → IsLineWrittenOrCutShort sink old new (unmade_line why) → IsUnmade shown sink order was now old new
  refused_alone (unmade.Refused format.AlreadyAHeap) n is three answer sizes makes told = record { why = format.AlreadyAHeap; by_name = λ is. cc; refused = answer; sizes = sizes; calls = makes; told = told }
  refused_alone (unmade.Refused (format.TooSmall need have)) n is three answer sizes makes told = record { why = format.TooSmall need have; by_name = λ is. cc; refused = answer; sizes = sizes; calls = makes; told = told }
  refused_alone (unmade.Refused format.Device) n is three answer sizes makes told = absurd (omega arith)
  refused_alone unmade.OutOfMemory n is three answer sizes makes told = absurd (omega arith)

  -- or because the device failed
  pub failed_unmade : (why : NotFormatted) (n : ℕ) → n ≡ exit_number (unmade_status why) → n ≡ 7 → HasFaultsUnmade why (shown.faults was) (shown.faults now) (shown.failing now) → IsLineWrittenOrCutShort sink old new (unmade_line why) → HasDeviceFailed shown sink was now old new
  failed_unmade (unmade.Refused format.Device) n is seven failed told = record { failed = failed; told = told }
  failed_unmade (unmade.Refused format.AlreadyAHeap) n is seven failed told = absurd (omega arith)
  failed_unmade (unmade.Refused (format.TooSmall need have)) n is seven failed told = absurd (omega arith)
  failed_unmade unmade.OutOfMemory n is seven failed told = absurd (omega arith)

-- with the status 6 there was no memory
pub want_of_memory : (result : Result (Unit {0}) NotFormatted) (why : NotFormatted) (status : ℕ) → result ≡ Err why → status ≡ exit_number (unmade_status why) → status ≡ 6 → result ≡ Err unmade.OutOfMemory
want_of_memory result unmade.OutOfMemory status is told six = is
want_of_memory result (unmade.Refused format.AlreadyAHeap) status is told six = absurd (omega (arith, told, six))
want_of_memory result (unmade.Refused (format.TooSmall need have)) status is told six = absurd (omega (arith, told, six))
want_of_memory result (unmade.Refused format.Device) status is told six = absurd (omega (arith, told, six))

module _ {S C Q R A D K : Type 0} (machine : Machine S C Q R A) (Contents : ℕ → List ℕ → S → ℕ → Type 0) (shown : ShownDevice D) (sink : ShownSink K) (kind : ℕ) (Rejects : ℕ → List ℕ → Unfit → Type 0) (earlier : Earlier S) (was now : D) (old new : K) where
  -- there is none, since none was made
  pub none_made : (order : ℕ) (why : NotFormatted) →
      (IsTrue shown.tells_words → (w : FormatRefused) → why ≡ unmade.Refused w → IsFormatAnswer order (shown.words was) (Err w)) → ((w : FormatRefused) → why ≡ unmade.Refused w → HasTooFewFor order (shown.size was) w) →
      MakesNone shown order why was now → HasFaultsUnmade why (shown.faults was) (shown.faults now) (shown.failing now) → (IsTrue shown.tells_images → IsLeft machine Contents shown earlier (New order) was now) → (why ≡ unmade.OutOfMemory → now ≡ was) → WithinMaking shown order was now → IsLineWrittenOrCutShort sink old new (unmade_line why) →
      HasNone machine Contents shown sink kind Rejects earlier (New order) was now old new (exit_number (unmade_status why))
  none_made order why answer sizes calls faults images memory within told = record {
    images = images;
    calls = within;
    heap_refused = λ three. refused_unmade shown sink was now old new order why _ refl three answer sizes calls told;
    device_failed = λ seven. failed_unmade shown sink was now old new order why _ refl seven faults told;
    unfailed = unfailed why faults;
    uncalled = λ six. memory (remembered why six);
    no_memory = unremembered why told;
  }
    where
      unfailed : (why : NotFormatted) → HasFaultsUnmade why (shown.faults was) (shown.faults now) (shown.failing now) → exit_number (unmade_status why) ≡ 6 → shown.faults now ≡ shown.faults was
      unfailed unmade.OutOfMemory same six = same
      unfailed (unmade.Refused format.Device) failed six = absurd (omega (arith, six))
      unfailed (unmade.Refused format.AlreadyAHeap) failed six = absurd (omega (arith, six))
      unfailed (unmade.Refused (format.TooSmall need have)) failed six = absurd (omega (arith, six))

      remembered : (why : NotFormatted) → exit_number (unmade_status why) ≡ 6 → why ≡ unmade.OutOfMemory
      remembered unmade.OutOfMemory six = refl
      remembered (unmade.Refused format.Device) six = absurd (omega (arith, six))
      remembered (unmade.Refused format.AlreadyAHeap) six = absurd (omega (arith, six))
      remembered (unmade.Refused (format.TooSmall need have)) six = absurd (omega (arith, six))

      unremembered : (why : NotFormatted) → IsLineWrittenOrCutShort sink old new (unmade_line why) → exit_number (unmade_status why) ≡ 6 → IsLineWrittenOrCutShort sink old new (codes "no memory")
      unremembered unmade.OutOfMemory told six = told
      unremembered (unmade.Refused format.Device) told six = absurd (omega (arith, six))
      unremembered (unmade.Refused format.AlreadyAHeap) told six = absurd (omega (arith, six))
      unremembered (unmade.Refused (format.TooSmall need have)) told six = absurd (omega (arith, six))

  -- or none was opened
  pub none_opened : (why : Why) → (IsTrue shown.tells_words → IsRefusal Contents Rejects (shown.words was) why) → NamesTooFew (shown.size was) why →
      HasOpeningFaults {T = Unit {0}} (Err why) (shown.faults was) (shown.faults now) (shown.failing now) → (IsTrue shown.tells_images → IsLeft machine Contents shown earlier Standing was now) → (IsTrue shown.tells_words → OpeningCalls {T = Unit {0}} shown (shown.words was) was now (Err why)) → WithinOpening shown was now → IsLineWrittenOrCutShort sink old new (refusal_line kind why) →
      HasNone machine Contents shown sink kind Rejects earlier Standing was now old new (exit_number (refusal_status why))
  none_opened Device answer sizes faults images calls within told = record {
    images = images;
    calls = within;
    heap_refused = λ three. absurd (omega (arith, three));
    device_failed = λ seven. record { failed = faults; told = told };
    unfailed = λ six. absurd (omega (arith, six));
    uncalled = λ six. tt;
    no_memory = λ six. absurd (omega (arith, six));
  }
  none_opened OutOfMemory answer sizes faults images calls within told = record {
    images = images;
    calls = within;
    heap_refused = λ three. absurd (omega (arith, three));
    device_failed = λ seven. absurd (omega (arith, seven));
    unfailed = λ six. faults;
    uncalled = λ six. tt;
    no_memory = λ six. told;
  }
  none_opened why answer sizes faults images calls within told = by_name why refl refl answer sizes calls faults told images
    where
      by_name : (why : Why) → refusal_status why ≡ HeapRefused → exit_number (refusal_status why) ≡ 3 → (IsTrue shown.tells_words → IsRefusal Contents Rejects (shown.words was) why) → NamesTooFew (shown.size was) why →
          (IsTrue shown.tells_words → OpeningCalls {T = Unit {0}} shown (shown.words was) was now (Err why)) → HasOpeningFaults {T = Unit {0}} (Err why) (shown.faults was) (shown.faults now) (shown.failing now) → IsLineWrittenOrCutShort sink old new (refusal_line kind why) → (IsTrue shown.tells_images → IsLeft machine Contents shown earlier Standing was now) →
          HasNone machine Contents shown sink kind Rejects earlier Standing was now old new (exit_number (refusal_status why))
      by_name why named three answer sizes calls faults told images = record {
        images = images;
        calls = within;
        heap_refused = λ is. record {
          why = why;
          by_name = name_of why named;
          refused = answer;
          sizes = λ need have same. subst (λ (w : Why). NamesTooFew (shown.size was) w) same sizes;
          calls = calls;
          within = within;
          images = images;
          unfailed = unfailed_by_name why _ _ _ (name_of why named) faults;
          told = told;
        };
        device_failed = λ seven. absurd (omega (arith, three, seven));
        unfailed = λ six. absurd (omega (arith, three, six));
        uncalled = λ six. tt;
        no_memory = λ six. absurd (omega (arith, three, six));
      }

  -- or none was upgraded
  pub none_upgraded : (why : Why) → (IsTrue shown.tells_words → IsUpgradeRefusal earlier (shown.words was) why) → NamesTooFew (shown.size was) why →
      HasUpgradeFaults {T = Unit {0}} (Err why) (shown.faults was) (shown.faults now) (shown.failing now) → (IsTrue shown.tells_images → IsLeft machine Contents shown earlier Upgraded was now) →
      (IsTrue shown.tells_words → UpgradeCalls {T = Unit {0}} shown (shown.words was) was now (Err why)) → WithinUpgrade shown was now → (why ≢ Device → WithinOpening shown was now) →
      (IsTrue shown.tells_images → why ≢ Device → IsLeft machine Contents shown earlier Standing was now) → IsLineWrittenOrCutShort sink old new (refusal_line kind why) →
      HasNone machine Contents shown sink kind Rejects earlier Upgraded was now old new (exit_number (refusal_status why))
  none_upgraded why answer sizes faults images calls within opened left told = record {
    images = images;
    calls = within;
    heap_refused = λ three. record {
      why = why;
      by_name = name_of why (named why three);
      refused = answer;
      sizes = λ need have same. subst (λ (w : Why). NamesTooFew (shown.size was) w) same sizes;
      calls = λ tells. named_calls shown (shown.words was) was now why (named why three) (calls tells);
      within = opened (unfailed 3 why three (λ is. omega (arith, is)));
      images = λ tells. left tells (unfailed 3 why three (λ is. omega (arith, is)));
      unfailed = unfailed_by_name why _ _ _ (name_of why (named why three)) faults;
      told = told;
    };
    device_failed = λ seven. opening_failed shown sink was now old new kind why _ refl seven faults told;
    unfailed = λ six. same why six faults;
    uncalled = λ six. opened (unfailed 6 why six (λ is. omega (arith, is)));
    no_memory = λ six. remembered why six told;
  }
    where
      named : (why : Why) → exit_number (refusal_status why) ≡ 3 → refusal_status why ≡ HeapRefused
      named Device three = absurd (omega (arith, three))
      named OutOfMemory three = absurd (omega (arith, three))
      named other three = refl

      unfailed : (status : ℕ) (why : Why) → exit_number (refusal_status why) ≡ status → status ≢ 7 → why ≢ Device
      unfailed status why told other is = let seven : exit_number (refusal_status why) ≡ 7 = ap (λ w. exit_number (refusal_status w)) is in other (omega (arith, told, seven))

      same : (why : Why) → exit_number (refusal_status why) ≡ 6 → HasUpgradeFaults {T = Unit {0}} (Err why) (shown.faults was) (shown.faults now) (shown.failing now) → shown.faults now ≡ shown.faults was
      same OutOfMemory six faults = faults
      same other six faults = absurd (omega (arith, six))

      remembered : (why : Why) → exit_number (refusal_status why) ≡ 6 → IsLineWrittenOrCutShort sink old new (refusal_line kind why) → IsLineWrittenOrCutShort sink old new (codes "no memory")
      remembered OutOfMemory six told = told
      remembered other six told = absurd (omega (arith, six))

-- the statuses where there is no heap
pub unmade_ends : (why : NotFormatted) → (unmade_status why ≡ HeapRefused) ⊎ (unmade_status why ≡ NoMemory) ⊎ (unmade_status why ≡ DeviceFailed)
unmade_ends (unmade.Refused format.Device) = inr (inr refl)
unmade_ends (unmade.Refused format.AlreadyAHeap) = inl refl
unmade_ends (unmade.Refused (format.TooSmall need have)) = inl refl
unmade_ends unmade.OutOfMemory = inr (inl refl)

pub refusal_ends : (why : Why) → (refusal_status why ≡ HeapRefused) ⊎ (refusal_status why ≡ NoMemory) ⊎ (refusal_status why ≡ DeviceFailed)
refusal_ends Device = inr (inr refl)
refusal_ends OutOfMemory = inr (inl refl)
refusal_ends other = inl refl
