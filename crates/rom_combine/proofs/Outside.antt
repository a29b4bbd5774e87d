-- What a batch changes of the words: the state and the two regions.
use Rattle.std.specs.Prelude.{◌≡◌, ℕ, ◌+◌, ◌*◌, ◌^◌, ◌<◌, ◌≤◌, Bool, if◌then◌else◌, is_err, List, Result, length}
use Rattle.std.proofs.Common.{Ok, Err, refl, ◌∙◌, arith}
use Rattle.rom_model.specs.Blocks.{region_len}
use Rattle.rom_model.specs.Faults.{HasCause, counted}
use Rattle.rom_model.specs.Space.{ChangesOnly}
use Rattle.rom_device.specs.Device.{ShownDevice, CountsCalls, Does, Makes, WritesWord}
use Rattle.rom_device.proofs.Going.{does_by, does_on, runs_none}
use Rattle.rom_header.specs.Layout.{MAIN, STATE, back_at}
use Rattle.rom_header.specs.Writing.{StateOrWithin}
use Rattle.rom_ranges.specs.declared.range.Range.{Range}
use Rattle.rom_twin.specs.Calls.{rewritten_at}
use Rattle.rom_twin.specs.Ranges.{WritesRanges}
use Rattle.rom_twin.specs.declared.phase.Phase.{Phase}
use Rattle.rom_twin.specs.declared.phase.Phase.TheVariants.{Redo}
use Rattle.rom_twin.proofs.Repairs.{state_or_joins, state_or_writes}
use Rattle.rom_combine.specs.Costs.{WithinHeap, WritesHeap}

-- one region lies within the heap
region_within : (n at count : ℕ) → MAIN ≤ at → at + count ≤ MAIN + 2 * region_len n → (x y : List ℕ) → ChangesOnly at count x y → WithinHeap n x y
region_within n at count late ends x y only = record {
  as_long = only.as_long;
  before = λ k h other. only.before k (omega (arith, h, late));
  behind = λ k h. only.behind k (omega (arith, h, ends));
}

repaired_within : (n : ℕ) (phase : Phase) (x y : List ℕ) → StateOrWithin (rewritten_at phase n) (region_len n) x y → WithinHeap n x y
repaired_within n Redo x y w = record { as_long = w.as_long; before = λ k h other. w.before k (omega (arith, h)) other; behind = λ k h. w.behind k (omega (arith, h)) }
repaired_within n other x y w = record { as_long = w.as_long; before = λ k h other. w.before k (omega (arith, h)) other; behind = λ k h. w.behind k (omega (arith, h)) }

-- no fault is taken back
faults_later : {T E : Type 0} (before now : ℕ) (failing : Bool) (result : Result T E) → before < 2 ^ 64 → HasCause before now failing result → before ≤ now
faults_later before now failing (Ok value) fits cause = omega (arith, cause.none)
faults_later before now failing (Err error) fits cause = omega (arith, fits, cause.failed.once)

counted_later : {T E : Type 0} (before now : ℕ) (result : Result T E) → before < 2 ^ 64 → now ≡ (if is_err result then counted before else before) → before ≤ now
counted_later before now (Ok value) fits e = omega (arith, e)
counted_later before now (Err error) fits e = omega (arith, fits, e)

module _ {D : Type 0} (shown : ShownDevice D) (n : ℕ) where
  pub within_none : (a : D) → Does shown (WithinHeap n) a a
  within_none a = record {
    size = refl;
    words = λ told. record { as_long = refl; before = λ k h other. refl; behind = λ k h. refl };
    images = λ told. runs_none shown (WithinHeap n) (λ x. record { as_long = refl; before = λ k h other. refl; behind = λ k h. refl }) a;
    doubts = λ told. runs_none shown (WithinHeap n) (λ x. record { as_long = refl; before = λ k h other. refl; behind = λ k h. refl }) a;
    fewer = λ at is. is;
  }

  pub within_then : (a b c : D) → Does shown (WithinHeap n) a b → Does shown (WithinHeap n) b c → Does shown (WithinHeap n) a c
  within_then a b c first second = does_on shown (WithinHeap n) (state_or_joins MAIN (2 * region_len n)) a b c first second

  pub within_state : (v : ℕ) (a b : D) → Does shown (WritesWord STATE v) a b → Does shown (WithinHeap n) a b
  within_state v a b does = does_by shown (WritesWord STATE v) (WithinHeap n) (state_or_writes MAIN (2 * region_len n) v (omega arith)) a b does

  pub within_main : (ranges : List Range) (image : List ℕ) → length image ≡ region_len n → (a b : D) → Does shown (WritesRanges ranges MAIN image) a b → Does shown (WithinHeap n) a b
  within_main ranges image long a b does = does_by shown (WritesRanges ranges MAIN image) (WithinHeap n) (λ x y w. region_within n MAIN (length image) (omega arith) (omega (arith, long)) x y w.only) a b does

  pub within_back : (ranges : List Range) (image : List ℕ) → length image ≡ region_len n → (a b : D) → Does shown (WritesRanges ranges (back_at n) image) a b → Does shown (WithinHeap n) a b
  within_back ranges image long a b does = does_by shown (WritesRanges ranges (back_at n) image) (WithinHeap n) (λ x y w. region_within n (back_at n) (length image) (omega arith) (omega (arith, long)) x y w.only) a b does

  pub within_repair : (phase : Phase) (a b : D) → Does shown (StateOrWithin (rewritten_at phase n) (region_len n)) a b → Does shown (WithinHeap n) a b
  within_repair phase a b does = does_by shown (StateOrWithin (rewritten_at phase n) (region_len n)) (WithinHeap n) (repaired_within n phase) a b does

  pub writes_none : (a : D) → WritesHeap shown n a a
  writes_none a = record { only = record { size = refl; reads = refl }; does = within_none a; later = omega arith }

  pub writes_then : (a b c : D) → WritesHeap shown n a b → WritesHeap shown n b c → WritesHeap shown n a c
  writes_then a b c first second = record {
    only = record { size = second.only.size ∙ first.only.size; reads = second.only.reads ∙ first.only.reads };
    does = within_then a b c first.does second.does;
    later = omega (arith, first.later, second.later);
  }

  -- several calls, of which none reads
  pub writes_makes : {T E : Type 0} (writes syncs : ℕ) (a b : D) (result : Result T E) → shown.faults a < 2 ^ 64 → Does shown (WithinHeap n) a b → Makes shown 0 writes syncs a b result → WritesHeap shown n a b
  writes_makes writes syncs a b result fits does makes = record {
    only = record { size = does.size; reads = omega (arith, makes.most_reads.later, makes.most_reads.most) };
    does = does;
    later = faults_later (shown.faults a) (shown.faults b) (shown.failing b) result fits makes.cause;
  }

  -- one call, which reads nothing
  pub writes_counts : {T E : Type 0} (writes syncs : ℕ) (a b : D) (result : Result T E) → shown.faults a < 2 ^ 64 → Does shown (WithinHeap n) a b → CountsCalls shown 0 writes syncs a b result → WritesHeap shown n a b
  writes_counts writes syncs a b result fits does counts = record {
    only = record { size = does.size; reads = omega (arith, counts.reads_made) };
    does = does;
    later = counted_later (shown.faults a) (shown.faults b) result fits counts.faults;
  }
