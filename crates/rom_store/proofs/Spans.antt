-- What stops leave of a device over two stretches of calls, one after the other.
use Rattle.std.specs.Prelude.{◌≡◌, ◌⊎◌, ℕ, ◌+◌, ◌-◌, ◌≤◌, IsTrue, List, [], take, Option}
use Rattle.std.proofs.Common.{inl, inr, ⊎_elim, refl, sym, ap, subst, arith}
use Rattle.rom_model.specs.History.{after}
use Rattle.rom_model.specs.Story.{Story, state_at}
use Rattle.rom_device.specs.Device.{ShownDevice, Leaves}
use Rattle.rom_header.specs.Held.{Holds}
use Rattle.rom_combine.specs.Session.{SessionImage}
use Rattle.rom_store.specs.Closing.{HasLeftSince}
use Rattle.rom_store.specs.Start.{HasStarted, Start, device_start}

-- each image of the one and then of the other has R
pub leaves_both : {D : Type 0} (shown : ShownDevice D) (P Q R : List ℕ → Type 0) (a b c : D) → ((i : List ℕ) → P i → R i) → ((i : List ℕ) → Q i → R i) → Leaves shown P a b → Leaves shown Q b c → Leaves shown R a c
leaves_both shown P Q R a b c first second one two = record {
  later = omega (arith, one.later, two.later);
  nothing_else = λ t i le left. ⊎_elim (λ old. before t i le old) (λ q. inr (second i q)) (two.nothing_else t i (omega (arith, le, one.later)) left);
  keeps = λ t i le left. two.keeps t i (omega (arith, le, one.later)) (one.keeps t i le left);
}
  where
    before : (t : ℕ) (i : List ℕ) → t ≤ shown.clock a → shown.left_since b t i → shown.left_since a t i ⊎ R i
    before t i le left = ⊎_elim (λ old. inl old) (λ p. inr (first i p)) (one.nothing_else t i le left)

-- what was left since a start is what was left since this device
pub leaves_since : {D : Type 0} (shown : ShownDevice D) (start : Start) (P : List ℕ → Type 0) (a b : D) → start.clock ≡ shown.clock a → HasLeftSince shown start (shown.left_since a) P b → Leaves shown P a b
leaves_since shown start P a b same left = record {
  later = subst (λ (n : ℕ). n ≤ shown.clock b) same left.later;
  nothing_else = λ t i le now. left.nothing_else t i now;
  keeps = λ t i le was. left.keeps t i (omega (arith, le, same)) was;
}

-- or since one that has started so
pub leaves_first : {D : Type 0} (shown : ShownDevice D) (start : Start) (test : ℕ → List ℕ → Type 0) (faults : ℕ) (P : List ℕ → Type 0) (first now : D) → IsTrue shown.tells_images → HasStarted shown faults start test first → HasLeftSince shown start test P now → Leaves shown P first now
leaves_first shown start test faults P first now told same left = record {
  later = subst (λ (n : ℕ). n ≤ shown.clock now) (sym same.clock) left.later;
  nothing_else = λ t i le is. ⊎_elim (λ old. inl ((same.left told t i).0 old)) (λ p. inr p) (left.nothing_else t i is);
  keeps = λ t i le was. left.keeps t i (omega (arith, le, same.clock)) ((same.left told t i).1 was);
}

-- what a stop left by a start it left by one that has started so
pub leaves_until : {D : Type 0} (shown : ShownDevice D) (faults : ℕ) (P : List ℕ → Type 0) (was at first : D) → IsTrue shown.tells_images → HasStarted shown faults (device_start shown at) (shown.left_since at) first → Leaves shown P was at → Leaves shown P was first
leaves_until shown faults P was at first told same left = record {
  later = subst (λ (n : ℕ). shown.clock was ≤ n) (sym same.clock) left.later;
  nothing_else = λ t i le is. left.nothing_else t i le ((same.left told t i).1 is);
  keeps = λ t i le old. (same.left told t i).0 (left.keeps t i le old);
}

-- what holds the opening is an image of the session
pub held_opening : {S : Type 0} (Contents : ℕ → List ℕ → S → ℕ → Type 0) (step : ℕ → S → ℕ → List ℕ → Option (S × List ℕ)) (story : Story S) (i : List ℕ) →
    Holds Contents story.order i story.opening story.opening_count → SessionImage Contents step story i
held_opening {S} Contents step story i held =
    let none : story.opening_count + 0 - story.opening_count ≡ 0 = omega arith in
    let count_is : story.opening_count ≡ story.opening_count + 0 + 0 = omega arith in
    let state_is : story.opening ≡ state_at step story (story.opening_count + 0) = sym (ap (λ (n : ℕ). after step story.order story.opening story.opening_count (take n story.history)) none) in
    inl (record {
      len = 0;
      boundary = ([], story.records, refl, refl);
      reached = omega arith;
      holds = subst (λ (z : S × ℕ). Holds Contents story.order i z.0 z.1) (λ j. (state_is j, count_is j)) held;
    })
