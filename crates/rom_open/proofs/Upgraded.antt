-- The calls of an upgrade that is refused: those of the opening, and no more.
use Rattle.std.specs.Prelude.{ℕ, ◌+◌, List, Err}
use Rattle.std.proofs.Common.{arith, inl, inr}
use Rattle.rom_model.specs.Faults.{AtMost}
use Rattle.rom_device.specs.Device.{ShownDevice}
use Rattle.rom_recover.specs.Calls.{CallsWithin}
use Rattle.rom_open.specs.Calls as opening
use Rattle.rom_open.specs.Calls.{OpeningCalls}
use Rattle.rom_open.specs.Refusals.{named_order}
use Rattle.rom_open.specs.Within.{CallsOfSomeOrder, WithinOpening}
use Rattle.rom_open.specs.declared.reasons.Why.{Why}
use Rattle.rom_open.specs.declared.reasons.Why.TheVariants.{NotAHeap, BadVersion, BadOrder, BadState, TooSmall, Twins, OldRegion, NewRegion, Malformed, Device, OutOfMemory}
use Rattle.rom_open.specs.UpgradeCalls.{AreUpgradeSyncs, AreUpgradeWrites, UpgradeCalls, UpgradeOfSomeOrder, WithinUpgrade, replacement_syncs, replacement_writes}

-- at most so many, and more
most_more : (k n before now : ℕ) → AtMost k before now → AtMost (k + n) before now
most_more k n before now most = record { later = most.later; most = omega (arith, most.most) }

refused_writes : (order state : ℕ) (why : Why) (before now : ℕ) → opening.AreOpeningWrites {T = Unit {0}} order state (Err why) before now → AreUpgradeWrites {T = Unit {0}} order state (Err why) before now
refused_writes order state NotAHeap before now writes = writes
refused_writes order state (BadVersion version) before now writes = writes
refused_writes order state (BadOrder n) before now writes = writes
refused_writes order state (BadState word) before now writes = writes
refused_writes order state (TooSmall need have) before now writes = writes
refused_writes order state (Twins offset main back) before now writes = writes
refused_writes order state OldRegion before now writes = writes
refused_writes order state NewRegion before now writes = writes
refused_writes order state (Malformed offset rule found) before now writes = writes
refused_writes order state OutOfMemory before now writes = writes
refused_writes order state Device before now writes = most_more _ _ before now writes

refused_syncs : (state : ℕ) (why : Why) (before now : ℕ) → opening.AreOpeningSyncs {T = Unit {0}} state (Err why) before now → AreUpgradeSyncs {T = Unit {0}} state (Err why) before now
refused_syncs state NotAHeap before now syncs = syncs
refused_syncs state (BadVersion version) before now syncs = syncs
refused_syncs state (BadOrder n) before now syncs = syncs
refused_syncs state (BadState word) before now syncs = syncs
refused_syncs state (TooSmall need have) before now syncs = syncs
refused_syncs state (Twins offset main back) before now syncs = syncs
refused_syncs state OldRegion before now syncs = syncs
refused_syncs state NewRegion before now syncs = syncs
refused_syncs state (Malformed offset rule found) before now syncs = syncs
refused_syncs state OutOfMemory before now syncs = syncs
refused_syncs state Device before now syncs = most_more _ _ before now syncs

pub refused_calls : {D : Type 0} (shown : ShownDevice D) (x : List ℕ) (a b : D) (why : Why) → OpeningCalls {T = Unit {0}} shown x a b (Err why) → UpgradeCalls {T = Unit {0}} shown x a b (Err why)
refused_calls shown x a b why calls = record {
  reads = calls.reads;
  writes = refused_writes _ _ why _ _ calls.writes;
  syncs = refused_syncs _ why _ _ calls.syncs;
}

module _ {D : Type 0} (shown : ShownDevice D) (a b : D) where
  calls_more : (reads writes syncs more_writes more_syncs : ℕ) → CallsWithin shown reads writes syncs a b → CallsWithin shown reads (writes + more_writes) (syncs + more_syncs) a b
  calls_more reads writes syncs more_writes more_syncs within = record {
    most_reads = within.most_reads;
    most_writes = most_more writes more_writes _ _ within.most_writes;
    most_syncs = most_more syncs more_syncs _ _ within.most_syncs;
  }

  some_order : CallsOfSomeOrder shown a b → UpgradeOfSomeOrder shown a b
  some_order (inl few) = inl few
  some_order (inr some) = inr (some.0, some.1, some.2, calls_more _ _ _ (replacement_writes some.0) replacement_syncs some.3)

  pub within_refused : WithinOpening shown a b → WithinUpgrade shown a b
  within_refused opened = record {
    calls = λ told. calls_more _ _ _ (replacement_writes (named_order (shown.words a))) replacement_syncs (opened.calls told);
    by_order = some_order opened.by_order;
    stops = opened.stops;
  }
