-- Where the device was not called, all is as it was.
use Rattle.std.specs.Prelude.{◌≡◌, ◌≢◌, ◌⊎◌, ℕ, List, codes}
use Rattle.std.proofs.Common.{refl, ap, arith, inl, inr}
use Rattle.rom_model.specs.Earlier.{Earlier}
use Rattle.rom_model.specs.Machine.{Machine}
use Rattle.rom_model.specs.declared.unfit.Unfit.{Unfit}
use Rattle.rom_device.specs.Device.{ShownDevice}
use Rattle.rom_device.proofs.Going.{leaves_none, runs_none}
use Rattle.rom_header.specs.Layout.{words_needed}
use Rattle.rom_recover.specs.Calls.{CallsWithin}
use Rattle.rom_text.specs.Runs.{IsLineWrittenOrCutShort}
use Rattle.rom_text.specs.Streams.{ShownSink}
use Rattle.rom_run.specs.Statuses.{exit_number}
use Rattle.rom_run.specs.Keeping.{IsCalledWithin}
use Rattle.rom_run.specs.Working.{HasNone, IsDeviceKept}
use Rattle.rom_run.specs.declared.heap.Heap.{Heap}
use Rattle.rom_run.specs.declared.heap.Heap.TheVariants.{New, Standing, Upgraded}
use Rattle.rom_run.specs.declared.status.Status.{Status}
use Rattle.rom_run.specs.declared.status.Status.TheVariants.{NoMemory, ScriptFailed, ScriptTooLong}

module _ {D : Type 0} (shown : ShownDevice D) (was : D) where
  -- no call is within any number of them
  uncalled : (reads writes syncs : ℕ) → CallsWithin shown reads writes syncs was was
  uncalled reads writes syncs = record {
    most_reads = record { later = omega arith; most = omega arith };
    most_writes = record { later = omega arith; most = omega arith };
    most_syncs = record { later = omega arith; most = omega arith };
  }

  -- so within those of an opening, or of a making
  within_uncalled : (heap : Heap) → IsCalledWithin shown heap was was
  within_uncalled (New order) = record {
    calls = uncalled 1 (words_needed order) 3;
    stops = inl refl;
  }
  within_uncalled Standing = record {
    calls = λ tells. uncalled _ _ _;
    by_order = inl (uncalled 4 0 0);
    idle = λ tells idle. record { size = refl; words = λ told. refl; images = λ told. runs_none shown _ (λ x. refl) was; doubts = λ told. runs_none shown _ (λ x. refl) was; fewer = λ at is. is };
    stops = inl refl;
  }
  within_uncalled Upgraded = record {
    calls = λ tells. uncalled _ _ _;
    by_order = inl (uncalled 4 0 0);
    stops = inl refl;
  }

  -- the device keeps its words
  pub kept_uncalled : (heap : Heap) → IsDeviceKept shown heap was was
  kept_uncalled (New order) = record {
    size = refl;
    outside = λ told. record { as_long = refl; before = λ k lt. refl; behind = λ k le. refl };
    spared = λ told refused. record { size = refl; words = λ told. refl; images = λ told. runs_none shown _ (λ x. refl) was; doubts = λ told. runs_none shown _ (λ x. refl) was; fewer = λ at is. is };
  }
  kept_uncalled Standing = record {
    size = refl;
    outside = λ told. record { as_long = refl; before = λ k lt other. refl; behind = λ k le. refl };
    spared = tt;
  }
  kept_uncalled Upgraded = record {
    size = refl;
    outside = λ told. record { as_long = refl; before = λ k lt other. refl; behind = λ k le. refl };
    spared = tt;
  }

  -- and there is no session, with a status of neither a refused heap nor a device that failed
  pub none_uncalled : {S C Q R A K : Type 0} (machine : Machine S C Q R A) (Contents : ℕ → List ℕ → S → ℕ → Type 0) (sink : ShownSink K) (kind : ℕ) (Rejects : ℕ → List ℕ → Unfit → Type 0) (earlier : Earlier S) (old new : K) (status : ℕ) →
      status ≢ 3 → status ≢ 7 → (status ≡ 6 → IsLineWrittenOrCutShort sink old new (codes "no memory")) → (heap : Heap) → HasNone machine Contents shown sink kind Rejects earlier heap was was old new status
  none_uncalled machine Contents sink kind Rejects earlier old new status unrefused unfailed told (New order) = record {
    images = λ tells. leaves_none shown _ was;
    calls = within_uncalled (New order);
    heap_refused = λ three. absurd (unrefused three);
    device_failed = λ seven. absurd (unfailed seven);
    unfailed = λ six. refl;
    uncalled = λ six. refl;
    no_memory = told;
  }
  none_uncalled machine Contents sink kind Rejects earlier old new status unrefused unfailed told Standing = record {
    images = λ tells. leaves_none shown _ was;
    calls = within_uncalled Standing;
    heap_refused = λ three. absurd (unrefused three);
    device_failed = λ seven. absurd (unfailed seven);
    unfailed = λ six. refl;
    uncalled = λ six. tt;
    no_memory = told;
  }
  none_uncalled machine Contents sink kind Rejects earlier old new status unrefused unfailed told Upgraded = record {
    images = λ tells. leaves_none shown _ was;
    calls = within_uncalled Upgraded;
    heap_refused = λ three. absurd (unrefused three);
    device_failed = λ seven. absurd (unfailed seven);
    unfailed = λ six. refl;
    uncalled = λ six. within_uncalled Standing;
    no_memory = told;
  }

-- scripts that can't be read are told by another status
pub unread_otherwise : (status : Status) → (status ≡ ScriptFailed) ⊎ (status ≡ ScriptTooLong) ⊎ (status ≡ NoMemory) → (exit_number status ≢ 3) × (exit_number status ≢ 7)
unread_otherwise status (inl is) = (λ three. omega (arith, ap exit_number is, three), λ seven. omega (arith, ap exit_number is, seven))
unread_otherwise status (inr (inl is)) = (λ three. omega (arith, ap exit_number is, three), λ seven. omega (arith, ap exit_number is, seven))
unread_otherwise status (inr (inr is)) = (λ three. omega (arith, ap exit_number is, three), λ seven. omega (arith, ap exit_number is, seven))
