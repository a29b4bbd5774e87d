-- What stops leave of a heap that was opened, and what its recovery changes.
use Rattle.std.specs.Prelude.{◌≡◌, ℕ, ◌+◌, ◌-◌, List, [], length, take, Option}
use Rattle.std.proofs.Common.{inl, inr, ⊎_elim, refl, sym, ap, subst, arith}
use Rattle.rom_model.specs.History.{after}
use Rattle.rom_model.specs.Story.{Story, state_at}
use Rattle.rom_device.specs.Device.{ShownDevice, Leaves}
use Rattle.rom_header.specs.Held.{Holds}
use Rattle.rom_combine.specs.Costs.{WithinHeap}
use Rattle.rom_combine.specs.Session.{HoldsAfter, ImageNow, SessionImage}
use Rattle.rom_recover.specs.Recovered.{Mends}

-- what a stop leaves has a weaker condition too
pub leaves_by : {D : Type 0} (shown : ShownDevice D) (P Q : List ℕ → Type 0) (a b : D) → ((i : List ℕ) → P i → Q i) → Leaves shown P a b → Leaves shown Q a b
leaves_by shown P Q a b weaker leaves = record {
  later = leaves.later;
  nothing_else = λ t i le left. ⊎_elim (λ old. inl old) (λ p. inr (weaker i p)) (leaves.nothing_else t i le left);
  keeps = leaves.keeps;
}

-- of a session that began with what an image holds
module _ {S : Type 0} (Contents : ℕ → List ℕ → S → ℕ → Type 0) (step : ℕ → S → ℕ → List ℕ → Option (S × List ℕ)) (story : Story S) (i : List ℕ) (held : Holds Contents story.order i story.opening story.opening_count) where
  held_first : HoldsAfter Contents step story 0 [] i
  held_first =
      let none : story.opening_count + 0 - story.opening_count ≡ 0 = omega arith in
      let count_is : story.opening_count ≡ story.opening_count + 0 + 0 = omega arith in
      let state_is : story.opening ≡ state_at step story (story.opening_count + 0) = sym (ap (λ (n : ℕ). after step story.order story.opening story.opening_count (take n story.history)) none) in
      subst (λ (z : S × ℕ). Holds Contents story.order i z.0 z.1) (λ j. (state_is j, count_is j)) held

  -- it is one of its images
  pub held_opening : SessionImage Contents step story i
  held_opening = inl (record {
    len = 0;
    boundary = ([], story.records, refl, refl);
    reached = omega arith;
    holds = held_first;
  })

  -- and one now, where nothing was done
  pub held_now : story.history ≡ [] → ImageNow Contents step story i
  held_now none = inl (subst (λ n. HoldsAfter Contents step story n [] i) (sym (ap length none)) held_first)

-- what a recovery changes of the words lies within the heap
pub mends_within : (n : ℕ) (x y : List ℕ) → Mends n x y → WithinHeap n x y
mends_within n x y (inl same) = subst (λ (z : List ℕ). WithinHeap n x z) (sym same) record { as_long = refl; before = λ k h other. refl; behind = λ k h. refl }
mends_within n x y (inr mended) = mended.takes.others
