-- The calls of an opening and of a making, counted by their answers, are no more than any makes.
use Rattle.std.specs.Prelude.{◌≡◌, ℕ, ◌==◌, ◌<◌, ◌≤◌, min, Bool, true, false, if◌then◌else◌, Result, Ok, Err, IfErr, IsTrue}
use Rattle.std.proofs.Common.{arith, inl, inr}
use Rattle.rom_model.specs.Faults.{Adds, AtMost, StopsAtFault}
use Rattle.rom_device.specs.Device.{ShownDevice, Does, IsSynced, Leaves, Makes, Stays}
use Rattle.rom_header.specs.Calls.{format_fault, format_reads, format_syncs, format_writes}
use Rattle.rom_header.specs.Headers.{IsIdle}
use Rattle.rom_header.specs.Regions.{SameRegion}
use Rattle.rom_header.specs.Writing.{Alters}
use Rattle.rom_header.specs.declared.fresh.FormatRefused.{FormatRefused}
use Rattle.rom_header.specs.declared.fresh.FormatRefused.TheVariants as format
use Rattle.rom_recover.specs.Doubt.{IsLeftInDoubt}
use Rattle.rom_recover.specs.Recovered.{IsDone, Mended}
use Rattle.rom_open.specs.Calls.{AreOpeningReads, AreOpeningSyncs, AreOpeningWrites, HasOpeningFaults, OpeningCalls, is_recovered, opening_reads, opening_syncs, opening_writes}
use Rattle.rom_open.specs.Opening.{MendsNamed}
use Rattle.rom_open.specs.Opens.{Opens}
use Rattle.rom_open.specs.Refusals.{NamesTooFew, named_order}
use Rattle.rom_open.specs.Within.{CallsOfSomeOrder, WithinMaking, WithinOpening}
use Rattle.rom_open.specs.declared.reasons.Why.{Why}
use Rattle.rom_open.specs.declared.reasons.Why.TheVariants.{NotAHeap, BadVersion, BadOrder, BadState, TooSmall, Twins, OldRegion, NewRegion, Malformed, Device, OutOfMemory}

-- exactly so many are at most as many as that and more
adds_most : (k n before now : ℕ) → k ≤ n → Adds k before now → AtMost n before now
adds_most k n before now le adds = record { later = omega (arith, adds); most = omega (arith, le, adds) }

none_most : (n before now : ℕ) → now ≡ before → AtMost n before now
none_most n before now is = record { later = omega (arith, is); most = omega (arith, is) }

most_most : (k n before now : ℕ) → k ≤ n → AtMost k before now → AtMost n before now
most_most k n before now le most = record { later = most.later; most = omega (arith, le, most.most) }

-- an opening reads the header and the state at least
reads_header : (k order state : ℕ) → k ≤ 5 → k ≤ opening_reads order state
reads_header k order state le = omega (arith, le)

one_sync : (idle : Bool) → 1 ≤ (if idle then 1 else 4)
one_sync true = omega arith
one_sync false = omega arith

have_reads : (few : Bool) → (if few then 0 else 3) ≤ 5
have_reads true = omega arith
have_reads false = omega arith

same_most : (n : ℕ) → n ≤ n
same_most n = omega arith

least_most : (n m : ℕ) → min n m ≤ n
least_most n m = omega arith

most_reads : {T : Type 0} (order state : ℕ) (result : Result T Why) (before now : ℕ) → AreOpeningReads order state result before now → AtMost (opening_reads order state) before now
most_reads order state (Ok opened) before now reads = adds_most _ _ before now (same_most _) reads
most_reads order state (Err OldRegion) before now reads = adds_most _ _ before now (same_most _) reads
most_reads order state (Err NewRegion) before now reads = adds_most _ _ before now (same_most _) reads
most_reads order state (Err (Malformed offset rule found)) before now reads = adds_most _ _ before now (same_most _) reads
most_reads order state (Err Device) before now reads = reads
most_reads order state (Err OutOfMemory) before now reads = adds_most _ _ before now (same_most _) reads
most_reads order state (Err (Twins offset main back)) before now reads = most_most _ _ before now (least_most _ _) reads
most_reads order state (Err (TooSmall need have)) before now reads = adds_most _ _ before now (reads_header _ order state (have_reads _)) reads
most_reads order state (Err NotAHeap) before now reads = adds_most _ _ before now (reads_header 1 order state (omega arith)) reads
most_reads order state (Err (BadVersion version)) before now reads = adds_most _ _ before now (reads_header 2 order state (omega arith)) reads
most_reads order state (Err (BadOrder n)) before now reads = adds_most _ _ before now (reads_header 3 order state (omega arith)) reads
most_reads order state (Err (BadState word)) before now reads = adds_most _ _ before now (reads_header 4 order state (omega arith)) reads

most_writes : {T : Type 0} (order state : ℕ) (result : Result T Why) (before now : ℕ) → AreOpeningWrites order state result before now → AtMost (opening_writes order state) before now
most_writes order state (Ok opened) before now writes = adds_most _ _ before now (same_most _) writes
most_writes order state (Err OldRegion) before now writes = adds_most _ _ before now (same_most _) writes
most_writes order state (Err NewRegion) before now writes = adds_most _ _ before now (same_most _) writes
most_writes order state (Err (Malformed offset rule found)) before now writes = adds_most _ _ before now (same_most _) writes
most_writes order state (Err OutOfMemory) before now writes = adds_most _ _ before now (same_most _) writes
most_writes order state (Err Device) before now writes = writes
most_writes order state (Err (Twins offset main back)) before now writes = none_most _ before now writes
most_writes order state (Err (TooSmall need have)) before now writes = none_most _ before now writes
most_writes order state (Err NotAHeap) before now writes = none_most _ before now writes
most_writes order state (Err (BadVersion version)) before now writes = none_most _ before now writes
most_writes order state (Err (BadOrder n)) before now writes = none_most _ before now writes
most_writes order state (Err (BadState word)) before now writes = none_most _ before now writes

most_syncs : {T : Type 0} (state : ℕ) (result : Result T Why) (before now : ℕ) → AreOpeningSyncs state result before now → AtMost (opening_syncs state) before now
most_syncs state (Ok opened) before now syncs = adds_most _ _ before now (same_most _) syncs
most_syncs state (Err OldRegion) before now syncs = adds_most _ _ before now (same_most _) syncs
most_syncs state (Err NewRegion) before now syncs = adds_most _ _ before now (same_most _) syncs
most_syncs state (Err (Malformed offset rule found)) before now syncs = adds_most _ _ before now (same_most _) syncs
most_syncs state (Err OutOfMemory) before now syncs = adds_most _ _ before now (same_most _) syncs
most_syncs state (Err Device) before now syncs = syncs
most_syncs state (Err (Twins offset main back)) before now syncs = adds_most 1 _ before now (one_sync (state == 0)) syncs
most_syncs state (Err (TooSmall need have)) before now syncs = none_most _ before now syncs
most_syncs state (Err NotAHeap) before now syncs = none_most _ before now syncs
most_syncs state (Err (BadVersion version)) before now syncs = none_most _ before now syncs
most_syncs state (Err (BadOrder n)) before now syncs = none_most _ before now syncs
most_syncs state (Err (BadState word)) before now syncs = none_most _ before now syncs

stops_opening : {T : Type 0} (result : Result T Why) (before now : ℕ) (failing : Bool) → HasOpeningFaults result before now failing → StopsAtFault before now failing
stops_opening (Ok opened) before now failing same = inl same
stops_opening (Err (Twins offset main back)) before now failing stops = stops
stops_opening (Err Device) before now failing failed = inr failed
stops_opening (Err NotAHeap) before now failing same = inl same
stops_opening (Err (BadVersion version)) before now failing same = inl same
stops_opening (Err (BadOrder n)) before now failing same = inl same
stops_opening (Err (BadState word)) before now failing same = inl same
stops_opening (Err (TooSmall need have)) before now failing same = inl same
stops_opening (Err OldRegion) before now failing same = inl same
stops_opening (Err NewRegion) before now failing same = inl same
stops_opening (Err (Malformed offset rule found)) before now failing same = inl same
stops_opening (Err OutOfMemory) before now failing same = inl same

within_opening : {D T : Type 0} (shown : ShownDevice D) (was now : D) (result : Result T Why) → (IsTrue shown.tells_words → OpeningCalls shown (shown.words was) was now result)
    → (IsTrue shown.tells_words → IsIdle (shown.words was) → Does shown Stays was now) → HasOpeningFaults result (shown.faults was) (shown.faults now) (shown.failing now) → CallsOfSomeOrder shown was now → WithinOpening shown was now
within_opening shown was now result calls idle faults by_order = record {
  calls = λ told. record {
    most_reads = most_reads _ _ result _ _ (calls told).reads;
    most_writes = most_writes _ _ result _ _ (calls told).writes;
    most_syncs = most_syncs _ result _ _ (calls told).syncs;
  };
  by_order = by_order;
  idle = idle;
  stops = stops_opening result _ _ _ faults;
}

-- what an opening does, of which the calls are given one by one
pub opens_by : {D : Type 0} (shown : ShownDevice D) (was now : D) (answer : Result (Unit {0}) Why) → (shown.size was < 8 → answer ≡ Err (TooSmall 8 (shown.size was))) → IfErr answer (NamesTooFew (shown.size was))
    → (IsTrue shown.tells_words → IsTrue (is_recovered answer) → IsDone (named_order (shown.words was)) (shown.words was) (shown.words now)) → (IsTrue (is_recovered answer) → IsSynced shown now) → Alters shown MendsNamed was now
    → (IsTrue shown.tells_images → Leaves shown (Mended (named_order (shown.words was)) (shown.words was)) was now)
    → (IsTrue shown.tells_doubts → IsLeftInDoubt shown (named_order (shown.words was)) was → Leaves shown (SameRegion (shown.words was)) was now)
    → (IsTrue shown.tells_words → IsIdle (shown.words was) → Does shown Stays was now) → HasOpeningFaults answer (shown.faults was) (shown.faults now) (shown.failing now)
    → (IsTrue shown.tells_words → OpeningCalls shown (shown.words was) was now answer) → CallsOfSomeOrder shown was now → Opens shown was now answer
opens_by shown was now answer too_small sizes recovered certain left images doubts idle faults calls by_order = record {
  too_small = too_small;
  sizes = sizes;
  recovered = recovered;
  certain = certain;
  left = left;
  images = images;
  doubts = doubts;
  faults = faults;
  calls = calls;
  within = within_opening shown was now answer calls idle faults by_order;
}

pub within_making : {D : Type 0} (shown : ShownDevice D) (order : ℕ) (was now : D) (result : Result (Unit {0}) FormatRefused)
    → Makes shown (format_reads result) (format_writes order result) (format_syncs result) was now (format_fault result) → WithinMaking shown order was now
within_making shown order was now (Ok done) makes = record {
  calls = record { most_reads = makes.most_reads; most_writes = makes.most_writes; most_syncs = makes.most_syncs };
  stops = inl makes.cause.none;
}
within_making shown order was now (Err format.Device) makes = record {
  calls = record { most_reads = makes.most_reads; most_writes = makes.most_writes; most_syncs = makes.most_syncs };
  stops = inr makes.cause.failed;
}
within_making shown order was now (Err format.AlreadyAHeap) makes = record {
  calls = record {
    most_reads = makes.most_reads;
    most_writes = most_most 0 _ _ _ (omega arith) makes.most_writes;
    most_syncs = most_most 1 _ _ _ (omega arith) makes.most_syncs;
  };
  stops = inl makes.cause.none;
}
within_making shown order was now (Err (format.TooSmall need have)) makes = record {
  calls = record {
    most_reads = most_most _ 1 _ _ (few_calls (have == 0)) makes.most_reads;
    most_writes = most_most 0 _ _ _ (omega arith) makes.most_writes;
    most_syncs = most_most _ 3 _ _ (few_syncs (have == 0)) makes.most_syncs;
  };
  stops = inl makes.cause.none;
}
  where
    few_calls : (none : Bool) → (if none then 0 else 1) ≤ 1
    few_calls true = omega arith
    few_calls false = omega arith

    few_syncs : (none : Bool) → (if none then 0 else 1) ≤ 3
    few_syncs true = omega arith
    few_syncs false = omega arith
