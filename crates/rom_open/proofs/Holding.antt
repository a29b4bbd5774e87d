-- Words hold one order, one state and one count, and so do all in which the same region counts.
use Rattle.std.specs.Prelude.{OnOk, Result, Ok, Err}
use Rattle.std.proofs.Common.{◌≡◌, inl, inr, ℕ, List, sym, ◌∙◌, subst, arith}
use Rattle.rom_header.specs.Regions.{IsCounted, IsCurrentRegion, SameRegion}
use Rattle.rom_header.specs.Held.{HoldsOne}

-- what two facts of a success lead to
pub both_ok : {T E A B C : Type 0} (result : Result T E) → (A → B → C) → OnOk result A → OnOk result B → OnOk result C
both_ok (Ok done) leads a b = leads a b
both_ok (Err refused) leads a b = tt

-- one region counts
counted_one : (n : ℕ) (x p q : List ℕ) → IsCounted n x p → IsCounted n x q → p ≡ q
counted_one n x p q (inl idle) (inl also) = sym idle.1 ∙ also.1
counted_one n x p q (inl idle) (inr (inl busy)) = absurd (omega (arith, idle.0, busy.0))
counted_one n x p q (inl idle) (inr (inr busy)) = absurd (omega (arith, idle.0, busy.0))
counted_one n x p q (inr (inl busy)) (inl idle) = absurd (omega (arith, idle.0, busy.0))
counted_one n x p q (inr (inl back)) (inr (inl also)) = sym back.1 ∙ also.1
counted_one n x p q (inr (inl back)) (inr (inr main)) = absurd (omega (arith, back.0, main.0))
counted_one n x p q (inr (inr busy)) (inl idle) = absurd (omega (arith, idle.0, busy.0))
counted_one n x p q (inr (inr main)) (inr (inl back)) = absurd (omega (arith, back.0, main.0))
counted_one n x p q (inr (inr main)) (inr (inr also)) = sym main.1 ∙ also.1

-- so that it counts in the other words too
pub same_current : (n : ℕ) (x i region : List ℕ) → IsCurrentRegion n x region → SameRegion x i → IsCurrentRegion n i region
same_current n x i region current same =
    let order : same.order ≡ n = sym same.words_are.heap.header.order_is ∙ current.heap.header.order_is in
    let counts : IsCounted n x same.region = subst (λ (m : ℕ). IsCounted m x same.region) order same.words_are.counts in
    let is : same.region ≡ region = counted_one n x same.region region counts current.counts in
    subst (λ (l : List ℕ). IsCurrentRegion n i l) is (subst (λ (m : ℕ). IsCurrentRegion m i same.region) order same.image_is)

module _ {S : Type 0} (Contents : ℕ → List ℕ → S → ℕ → Type 0)
    (one : (order : ℕ) (words : List ℕ) (s t : S) (j k : ℕ) → Contents order words s j → Contents order words t k → (s ≡ t) × (j ≡ k)) where
  pub holds_one : HoldsOne Contents
  holds_one words m n s t j k first second =
      let order : n ≡ m = sym second.current.heap.header.order_is ∙ first.current.heap.header.order_is in
      let counts : IsCounted m words second.region = subst (λ (i : ℕ). IsCounted i words second.region) order second.current.counts in
      let region : second.region ≡ first.region = sym (counted_one m words first.region second.region first.current.counts counts) in
      let contents : Contents m first.region t k =
      subst (λ (l : List ℕ). Contents m l t k) region (subst (λ (i : ℕ). Contents i second.region t k) order second.contents) in
      let both = one m first.region s t j k first.contents contents in
      (sym order, both.0, both.1)
