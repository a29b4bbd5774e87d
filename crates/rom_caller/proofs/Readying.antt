-- What is left of a device of which one word was read before a heap was made on it.
use Rattle.std.proofs.Common.{◌≡◌, ◌⊎◌, inl, inr, ⊎_elim, ◌∙◌, ℕ, ◌+◌, ◌≤◌, List, ap, arith, refl, sym, subst}
use Rattle.std.specs.Prelude.{◌≢◌, IfErr, IsTrue, None, OnOk, Option, Result, Ok, Err, Some, slice_index}
use Rattle.rom_device.proofs.Going.{leaves_none, leaves_still, leaves_then}
use Rattle.rom_device.specs.Device.{Leaves, OnlyReads, ShownDevice}
use Rattle.rom_header.specs.Layout.{MAGIC, words_needed}
use Rattle.rom_header.specs.Writing.{Alters}
use Rattle.rom_model.specs.Faults.{Adds, AtMost, FailedLast, StopsAtFault, counted}
use Rattle.rom_model.specs.Space.{ChangesOnly}
use Rattle.rom_open.specs.Making.{NoneOrHolds}
use Rattle.rom_open.specs.Within.{WithinMaking}
use Rattle.rom_model.specs.Faults.{Rose}
use Rattle.rom_open.specs.declared.reasons.Why.{Why}
use Rattle.rom_open.specs.declared.reasons.Why.TheVariants.{Device, OutOfMemory}
use Rattle.rom_caller.specs.Worked.{HasMadeNone, HasUnmade, IsAltered, IsMade, IsReady}

-- one more was counted, or the count stood at its last value
pub at_most_one : (before now : ℕ) → Adds 1 before now → AtMost 1 before now
at_most_one before now adds = record { later = omega (arith, adds); most = omega (arith, adds) }

stops_since : {D : Type 0} (shown : ShownDevice D) (was mid now : D) → shown.faults mid ≡ shown.faults was → StopsAtFault (shown.faults mid) (shown.faults now) (shown.failing now) → StopsAtFault (shown.faults was) (shown.faults now) (shown.failing now)
stops_since shown was mid now same stops = subst (λ (n : ℕ). StopsAtFault n (shown.faults now) (shown.failing now)) same stops

pub altered : {D S : Type 0} (shown : ShownDevice D) (Contents : ℕ → List ℕ → S → ℕ → Type 0) (empty : S) (order : ℕ)
    → ((d : D) (t : ℕ) (i : List ℕ) → IsTrue shown.tells_images → t ≤ shown.clock d → shown.leaves d i → shown.left_since d t i)
    → (was mid now : D) → OnlyReads shown was mid → AtMost 1 (shown.reads was) (shown.reads mid) → shown.faults mid ≡ shown.faults was
    → Alters shown (ChangesOnly 0 (words_needed order)) mid now → (IsTrue shown.tells_images → Leaves shown (NoneOrHolds Contents order empty) mid now) → WithinMaking shown order mid now
    → IsAltered shown Contents empty order was now
altered shown Contents empty order counts_now was mid now only one same alters images within = record {
  size = alters.size ∙ only.size;
  outside = λ told. subst (λ (ws : List ℕ). ChangesOnly 0 (words_needed order) ws (shown.words now)) (only.words told) (alters.words told);
  images = λ told. let P = NoneOrHolds Contents order empty in leaves_then shown P P was mid now (λ i p. p) (leaves_still shown P was was mid (λ t i le left. counts_now was t i told le left) (leaves_none shown P was) (only.images told)) (images told);
  reads = record { later = omega (arith, one.later, within.calls.most_reads.later); most = omega (arith, one.most, within.calls.most_reads.most) };
  writes = subst (λ (n : ℕ). AtMost (words_needed order) n (shown.writes now)) only.writes within.calls.most_writes;
  syncs = subst (λ (n : ℕ). AtMost 3 n (shown.syncs now)) only.syncs within.calls.most_syncs;
  stops = stops_since shown was mid now same within.stops;
}

-- of which one word was read, and nothing was made
pub only_read : {D S : Type 0} (shown : ShownDevice D) (Contents : ℕ → List ℕ → S → ℕ → Type 0) (empty : S) (order : ℕ)
    → ((d : D) (t : ℕ) (i : List ℕ) → IsTrue shown.tells_images → t ≤ shown.clock d → shown.leaves d i → shown.left_since d t i)
    → (was now : D) → OnlyReads shown was now → AtMost 1 (shown.reads was) (shown.reads now) → shown.faults now ≡ shown.faults was → IsAltered shown Contents empty order was now
only_read shown Contents empty order counts_now was now only one same = record {
  size = only.size;
  outside = λ told. subst (λ (ws : List ℕ). ChangesOnly 0 (words_needed order) (shown.words was) ws) (sym (only.words told)) (record { as_long = refl; before = λ k lt. refl; behind = λ k le. refl });
  images = λ told. let P = NoneOrHolds Contents order empty in leaves_still shown P was was now (λ t i le left. counts_now was t i told le left) (leaves_none shown P was) (only.images told);
  reads = record { later = one.later; most = omega (arith, one.most) };
  writes = subst (λ (n : ℕ). AtMost (words_needed order) (shown.writes was) n) (sym only.writes) (record { later = omega arith; most = omega arith });
  syncs = subst (λ (n : ℕ). AtMost 3 (shown.syncs was) n) (sym only.syncs) (record { later = omega arith; most = omega arith });
  stops = inl same;
}

one_order : (m n : ℕ) (make : Option ℕ) → make ≡ Some m → make ≡ Some n → m ≡ n
one_order m n make first second = let both : Some m ≡ Some n = sym first ∙ second in cc

asked_none : (m : ℕ) (make : Option ℕ) → make ≡ Some m → make ≡ None → ⊥
asked_none m make first second = let both : Some m ≡ None = sym first ∙ second in cc

-- a heap stands there already
pub heap_stands : {D S : Type 0} (shown : ShownDevice D) (Contents : ℕ → List ℕ → S → ℕ → Type 0) (empty : S) (order : ℕ) (was now : D) (make : Option ℕ) → make ≡ Some order → OnlyReads shown was now → (IsTrue shown.tells_words → slice_index (shown.words was) 0 ≡ MAGIC)
    → shown.faults now ≡ shown.faults was → IsAltered shown Contents empty order was now → IsReady shown Contents empty make was now
heap_stands shown Contents empty order was now make asked only magic same altered' = record {
  unasked = λ none. absurd (asked_none order make asked none);
  read = λ told not. only;
  made = λ n is told zero. let no = magic told in absurd (omega (arith, zero, no));
  altered = λ n is. subst (λ (k : ℕ). IsAltered shown Contents empty k was now) (one_order order n make asked is) altered';
  faults = same;
}

module _ {D S : Type 0} (shown : ShownDevice D) (Contents : ℕ → List ℕ → S → ℕ → Type 0) (empty : S) (order : ℕ) (was mid now : D) (only : OnlyReads shown was mid) (same : shown.faults mid ≡ shown.faults was) where
  cause_since : (why : Why) → (IsTrue shown.tells_words → slice_index (shown.words was) 0 ≡ 0) → (why ≡ OutOfMemory) ⊎ (why ≡ Device) → (why ≡ OutOfMemory → now ≡ mid) → (why ≡ Device → Rose (shown.faults mid) (shown.faults now)) → HasUnmade shown order was now why
  cause_since why zero (inl is) memory failed = subst (HasUnmade shown order was now) (sym is) (subst (λ (d : D). OnlyReads shown was d) (sym (memory is)) only, zero)
  cause_since why zero (inr is) memory failed = subst (HasUnmade shown order was now) (sym is) (subst (λ (n : ℕ). Rose n (shown.faults now)) same (failed is))

  module _ (make : Option ℕ) (asked : make ≡ Some order) (zero : IsTrue shown.tells_words → slice_index (shown.words was) 0 ≡ 0) (altered' : IsAltered shown Contents empty order was now) where
    pub ready_since : (r : Result (Unit {0}) Why) → (IsTrue shown.tells_words → OnOk r (IsMade shown Contents empty order mid now)) → OnOk r (shown.faults now ≡ shown.faults mid) → OnOk r (IsReady shown Contents empty make was now)
    ready_since (Ok done) made still = record {
      unasked = λ none. absurd (asked_none order make asked none);
      read = λ told not. absurd (not (zero told));
      made = λ n is told at. let m = made told in subst (λ (k : ℕ). IsMade shown Contents empty k was now) (one_order order n make asked is) (record { holds = m.holds; stands = m.stands; faults = m.faults ∙ same });
      altered = λ n is. subst (λ (k : ℕ). IsAltered shown Contents empty k was now) (one_order order n make asked is) altered';
      faults = still ∙ same;
    }
    ready_since (Err why) made still = tt

    pub none_since : (r : Result (Unit {0}) Why) → IfErr r (λ why. (why ≡ OutOfMemory) ⊎ (why ≡ Device)) → (r ≡ Err OutOfMemory → now ≡ mid) → IfErr r (λ why. why ≡ Device → Rose (shown.faults mid) (shown.faults now)) → IfErr r (HasMadeNone shown Contents empty make was now)
    none_since (Ok done) why memory failed = tt
    none_since (Err e) why memory failed = record { order = order; asked = asked; cause = cause_since e zero why (λ is. memory (ap Err is)) failed; read = λ told not. absurd (not (zero told)); altered = altered' }
