-- An update that is done has its place past all that its caller had seen, and the caller sees it then.
use Rattle.std.specs.Prelude.{◌≡◌, ℕ, zero, suc, ◌+◌, ◌<◌, ◌≤◌, List, [], ◌∷◌, length, Option}
use Rattle.std.proofs.Common.{refl, sym, arith}
use mathlib.Core.Option.{some, some-ne-none}
use lib.ListN.{get_elem?}
use Rattle.rom_model.specs.Seen.{IsPlaced}
use Rattle.rom_model.specs.declared.call.Updated.{Updated}
use Rattle.rom_model.specs.declared.call.Updated.TheVariants as told
use Rattle.rom_model.specs.declared.entry.Entry.{Entry}
use Rattle.rom_model.specs.declared.record.Found.{Found}
use Rattle.rom_rule.specs.CallKinds.{IsToldByPass}
use Rattle.rom_rule.specs.declared.views.Base.{Base}

-- what stands in a list has its place within it
stands_within : {X : Type 0} (xs : List X) (i : ℕ) (x : X) → get_elem? xs i ≡ some x → i < length xs
stands_within [] i x at = absurd (some-ne-none x (sym at))
stands_within (y ∷ ys) zero x at = omega arith
stands_within (y ∷ ys) (suc i) x at = let lt = stands_within ys i x at in omega arith

module _ {S : Type 0} (Contents : ℕ → List ℕ → S → ℕ → Type 0) (one : (order : ℕ) (words : List ℕ) (s t : S) (j k : ℕ) → Contents order words s j → Contents order words t k → (s ≡ t) × (j ≡ k))
    (step : ℕ → S → ℕ → List ℕ → Option (S × List ℕ)) (base : Base) where
  pub is_placed : (f : Found) (u : Updated (List ℕ)) (before now : List Entry) (s : S) (k : ℕ) → Contents base.order base.image s k → IsToldByPass Contents step base (f, u) (length before) before now → IsPlaced k before now u
  is_placed f (told.Done reply place) before now s k at is =
      let same : is.count ≡ k = (one base.order base.image is.start s is.count k is.opening at).1 in
      let since : is.count + length before ≤ place = is.since_is reply place refl in
      let entry = is.entry reply place refl in
      let place_is : place ≡ is.count + entry.0 = entry.1 in
      let lt : entry.0 < length now = stands_within now entry.0 _ entry.3 in
      (omega arith, omega arith)
  is_placed f told.Spent before now s k at is = tt
  is_placed f told.Failed before now s k at is = tt
  is_placed f told.Doubt before now s k at is = tt
