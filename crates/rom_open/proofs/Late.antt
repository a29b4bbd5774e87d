-- A refusal once the heap is recovered, which changes nothing of the device.
use Rattle.std.specs.Prelude.{◌<◌, ℕ, List, Ok, Err, IsTrue}
use Rattle.std.proofs.Common.{◌≡◌, false, true, inl, inr, refl, subst, sym}
use Rattle.rom_model.specs.Earlier.{Earlier}
use Rattle.rom_model.specs.declared.unfit.Unfit.{Unfit}
use Rattle.rom_device.specs.Device.{ShownDevice}
use Rattle.rom_header.specs.Regions.{IsCurrentRegion}
use Rattle.rom_open.specs.Calls.{HasOpeningFaults, OpeningCalls, is_late}
use Rattle.rom_open.specs.Opens.{Opens}
use Rattle.rom_open.specs.Refusals.{IsRefusedBy, IsUnfit, IsUnkept, NamesTooFew, named_order}
use Rattle.rom_open.specs.Upgrading.{IsUnfitOld}
use Rattle.rom_open.specs.declared.reasons.Why.{Why}
use Rattle.rom_open.specs.declared.reasons.Why.TheVariants.{NotAHeap, BadVersion, BadOrder, BadState, TooSmall, Twins, OldRegion, NewRegion, Malformed, Device, OutOfMemory}

early : {A : Type 0} → false ≡ true → A
early e = cc

module _ {D : Type 0} (shown : ShownDevice D) (was now : D) (room : shown.size was < 8 → ⊥) (opens : Opens shown was now (Ok tt)) where
  after : (why : Why) → NamesTooFew (shown.size was) why → (IsTrue shown.tells_words → OpeningCalls {T = Unit {0}} shown (shown.words was) was now (Err why))
      → HasOpeningFaults {T = Unit {0}} (Err why) (shown.faults was) (shown.faults now) (shown.failing now) → Opens shown was now (Err why)
  after why sizes calls faults = record {
    too_small = λ few. absurd (room few);
    sizes = sizes;
    recovered = λ told late. opens.recovered told refl;
    certain = λ late. opens.certain refl;
    left = opens.left;
    images = opens.images;
    doubts = opens.doubts;
    faults = faults;
    calls = calls;
    within = opens.within;
  }

  pub refused_late : (why : Why) → IsTrue (is_late why) → Opens shown was now (Err why)
  refused_late OldRegion late = after OldRegion tt (λ told. let made = opens.calls told in record { reads = made.reads; writes = made.writes; syncs = made.syncs }) opens.faults
  refused_late NewRegion late = after NewRegion tt (λ told. let made = opens.calls told in record { reads = made.reads; writes = made.writes; syncs = made.syncs }) opens.faults
  refused_late (Malformed offset rule found) late = after (Malformed offset rule found) tt (λ told. let made = opens.calls told in record { reads = made.reads; writes = made.writes; syncs = made.syncs }) opens.faults
  refused_late OutOfMemory late = after OutOfMemory tt (λ told. let made = opens.calls told in record { reads = made.reads; writes = made.writes; syncs = made.syncs }) opens.faults
  refused_late NotAHeap late = early late
  refused_late (BadVersion version) late = early late
  refused_late (BadOrder n) late = early late
  refused_late (BadState word) late = early late
  refused_late (TooSmall need have) late = early late
  refused_late (Twins offset main back) late = early late
  refused_late Device late = early late

-- want of memory is among the refusals of a region
pub refused_any : (Unfit : ℕ → List ℕ → Why → Type 0) → ((order : ℕ) (region : List ℕ) → Unfit order region OutOfMemory) → (words : List ℕ) (why : Why) → IsRefusedBy IsUnkept words why → IsRefusedBy Unfit words why
refused_any Unfit want words why (inl unready) = inl unready
refused_any Unfit want words why (inr found) = inr (found.0, found.1, subst (λ (w : Why). Unfit (named_order words) found.0 w) (sym found.2) (want (named_order words) found.0))

-- the region that counts is refused
pub refused_region : (Unfit : ℕ → List ℕ → Why → Type 0) (order : ℕ) (words region : List ℕ) (why : Why) → IsCurrentRegion order words region → Unfit order region why → IsRefusedBy Unfit words why
refused_region Unfit order words region why current unfit =
    let is : order ≡ named_order words = sym current.heap.header.order_is in
    inr (region, subst (λ (n : ℕ). IsCurrentRegion n words region) is current, subst (λ (n : ℕ). Unfit n region why) is unfit)

pub unfit_late : {S : Type 0} (Contents : ℕ → List ℕ → S → ℕ → Type 0) (Rejects : ℕ → List ℕ → Unfit → Type 0) (order : ℕ) (region : List ℕ) (why : Why) → IsUnfit Contents Rejects order region why → IsTrue (is_late why)
unfit_late Contents Rejects order region OldRegion unfit = refl
unfit_late Contents Rejects order region (Malformed offset rule found) unfit = refl
unfit_late Contents Rejects order region OutOfMemory unfit = refl
unfit_late Contents Rejects order region NewRegion unfit = absurd unfit
unfit_late Contents Rejects order region NotAHeap unfit = absurd unfit
unfit_late Contents Rejects order region (BadVersion version) unfit = absurd unfit
unfit_late Contents Rejects order region (BadOrder n) unfit = absurd unfit
unfit_late Contents Rejects order region (BadState word) unfit = absurd unfit
unfit_late Contents Rejects order region (TooSmall need have) unfit = absurd unfit
unfit_late Contents Rejects order region (Twins offset main back) unfit = absurd unfit
unfit_late Contents Rejects order region Device unfit = absurd unfit

pub unfit_old_late : {S : Type 0} (earlier : Earlier S) (order : ℕ) (region : List ℕ) (why : Why) → IsUnfitOld earlier order region why → IsTrue (is_late why)
unfit_old_late earlier order region NewRegion unfit = refl
unfit_old_late earlier order region (Malformed offset rule found) unfit = refl
unfit_old_late earlier order region OutOfMemory unfit = refl
unfit_old_late earlier order region OldRegion unfit = absurd unfit
unfit_old_late earlier order region NotAHeap unfit = absurd unfit
unfit_old_late earlier order region (BadVersion version) unfit = absurd unfit
unfit_old_late earlier order region (BadOrder n) unfit = absurd unfit
unfit_old_late earlier order region (BadState word) unfit = absurd unfit
unfit_old_late earlier order region (TooSmall need have) unfit = absurd unfit
unfit_old_late earlier order region (Twins offset main back) unfit = absurd unfit
unfit_old_late earlier order region Device unfit = absurd unfit
