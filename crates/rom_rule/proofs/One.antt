-- Two lists that stand for images of one table begin at one state
use Rattle.std.specs.Prelude.{◌≡◌, ℕ, List, Option}
use Rattle.rom_model.specs.declared.entry.Entry.{Entry}
use Rattle.rom_rule.specs.Readers.{IsHeldSinceOpening}
use Rattle.rom_rule.specs.declared.views.Base.{Base}

module _ {S : Type 0} (Contents : ℕ → List ℕ → S → ℕ → Type 0) (step : ℕ → S → ℕ → List ℕ → Option (S × List ℕ))
    (one : (order : ℕ) (words : List ℕ) (s t : S) (j k : ℕ) → Contents order words s j → Contents order words t k → (s ≡ t) × (j ≡ k)) where
  pub one_start : (b : Base) (image other : List ℕ) (log more : List Entry) (f g : ℕ) (x : IsHeldSinceOpening Contents step b image log f) (y : IsHeldSinceOpening Contents step b other more g) → (x.start ≡ y.start) × (x.count ≡ y.count)
  one_start b image other log more f g x y = one b.order b.image x.start y.start x.count y.count x.opening y.opening
