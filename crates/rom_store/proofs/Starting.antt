-- What was called of a device before the first pass of a session.
use Rattle.std.specs.Prelude.{◌≡◌, ℕ, ◌≤◌, IsTrue, List}
use Rattle.std.proofs.Common.{arith, sym, ◌∙◌, subst}
use Rattle.rom_model.specs.Faults.{AtMost}
use Rattle.rom_model.specs.Machine.{Machine}
use Rattle.rom_model.specs.declared.line.LineResult.{LineResult}
use Rattle.rom_model.specs.declared.line.Step.{Step}
use Rattle.rom_device.specs.Device.{Leaves, ShownDevice}
use Rattle.rom_header.specs.Held.{Holds}
use Rattle.rom_recover.specs.Calls.{CallsWithin}
use Rattle.rom_open.specs.AtRest.{IsHeapAtRest}
use Rattle.rom_open.specs.Making.{NoneOrHolds}
use Rattle.rom_open.specs.Within.{CallsOfOrder, HasMadeHeap, HasOpened, LiesAtRest, WithinMaking, WithinOpening}
use Rattle.rom_lines.specs.Replies.{Reserved}
use Rattle.rom_lines.specs.Steps.{Items}
use Rattle.rom_store.specs.Closing.{ClosedSeen}
use Rattle.rom_store.specs.Playing.{IsSession}
use Rattle.rom_store.specs.Start.{HasStarted, device_start}
use Rattle.rom_store.proofs.Spans.{leaves_until}

module _ {D : Type 0} (shown : ShownDevice D) where
  -- calls that are counted by a start are all that are counted since
  calls_stay : (reads writes syncs faults : ℕ) (was at d : D) → HasStarted shown faults (device_start shown at) (shown.left_since at) d → CallsWithin shown reads writes syncs was at → CallsWithin shown reads writes syncs was d
  calls_stay reads writes syncs faults was at d same within = record {
    most_reads = subst (λ (n : ℕ). AtMost reads (shown.reads was) n) (sym same.reads) within.most_reads;
    most_writes = subst (λ (n : ℕ). AtMost writes (shown.writes was) n) (sym same.writes) within.most_writes;
    most_syncs = subst (λ (n : ℕ). AtMost syncs (shown.syncs was) n) (sym same.syncs) within.most_syncs;
  }

  -- and it is at rest as it was then
  rest_stays : (order faults : ℕ) (at d : D) → HasStarted shown faults (device_start shown at) (shown.left_since at) d → LiesAtRest shown order at → LiesAtRest shown order d
  rest_stays order faults at d same rests told = let is = rests told in (is.0, subst (λ (words : List ℕ). IsHeapAtRest order is.0 words) (sym same.words) is.1)

  -- where the heap was opened by then
  pub opened_first : (order : ℕ) (was at d : D) (faults : ℕ) → WithinOpening shown was at → CallsOfOrder shown order was at → faults ≡ shown.faults was → LiesAtRest shown order at → HasStarted shown faults (device_start shown at) (shown.left_since at) d → HasOpened shown order was d
  opened_first order was at d faults within by_order as_often rests same = record {
    calls = λ told. calls_stay _ _ _ faults was at d same (within.calls told);
    by_order = calls_stay _ _ _ faults was at d same by_order;
    faults = same.faults_are ∙ as_often;
    rest = rest_stays order faults at d same rests;
  }

  -- what a stop leaves of it now is what it left then
  left_then : (faults : ℕ) (at d : D) → ((d : D) (t : ℕ) (i : List ℕ) → IsTrue shown.tells_images → t ≤ shown.clock d → shown.leaves d i → shown.left_since d t i) → ((d : D) (i : List ℕ) → IsTrue shown.tells_images → shown.left_since d (shown.clock d) i → shown.leaves d i)
      → HasStarted shown faults (device_start shown at) (shown.left_since at) d → IsTrue shown.tells_images → (i : List ℕ) → shown.leaves d i → shown.leaves at i
  left_then faults at d counts_now only_now same told i left =
      only_now at i told ((same.left told (shown.clock at) i).1 (counts_now d (shown.clock at) i told (omega (arith, same.clock)) left))

  -- where it was made
  pub made_first : {S : Type 0} (Contents : ℕ → List ℕ → S → ℕ → Type 0) (order : ℕ) (state : S) (was at d : D) (faults : ℕ) → ((d : D) (t : ℕ) (i : List ℕ) → IsTrue shown.tells_images → t ≤ shown.clock d → shown.leaves d i → shown.left_since d t i) → ((d : D) (i : List ℕ) → IsTrue shown.tells_images → shown.left_since d (shown.clock d) i → shown.leaves d i)
      → WithinMaking shown order was at → faults ≡ shown.faults was → LiesAtRest shown order at → (IsTrue shown.tells_images → Leaves shown (NoneOrHolds Contents order state) was at) → (IsTrue shown.tells_images → (i : List ℕ) → shown.leaves at i → Holds Contents order i state 0)
      → HasStarted shown faults (device_start shown at) (shown.left_since at) d → HasMadeHeap shown Contents order state was d
  made_first Contents order state was at d faults counts_now only_now within as_often rests making stands same = record {
    calls = calls_stay _ _ _ faults was at d same within.calls;
    faults = same.faults_are ∙ as_often;
    rest = rest_stays order faults at d same rests;
    making = λ told. leaves_until shown faults (NoneOrHolds Contents order state) was at d told same (making told);
    stands = λ told i left. stands told i (left_then faults at d counts_now only_now same told i left);
  }

-- what is known of the device before the passes of a session
pub session_since : {D S C Q R A : Type 0} (shown : ShownDevice D) (machine : Machine S C Q R A) (Contents : ℕ → List ℕ → S → ℕ → Type 0) (scripts : List (Items (Step C Q))) (results : List (Reserved (LineResult R A)))
    (First Second : D → Type 0) (closed : ClosedSeen D) → ((d : D) → First d → Second d) → IsSession shown machine Contents scripts results First closed → IsSession shown machine Contents scripts results Second closed
session_since shown machine Contents scripts results First Second closed weaker of = record {
  story = of.story;
  lawful = of.lawful;
  lasts = of.lasts;
  now = of.now;
  went = λ story is. let w = of.went story is in record { first = w.first; begun = weaker w.first w.begun; passes = w.passes };
  since = of.since;
  faults = of.faults;
}
