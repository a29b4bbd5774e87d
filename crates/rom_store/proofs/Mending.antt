-- What a recovery changes of the words of a device.
use Rattle.std.proofs.Common.{ℕ, List, inl, inr, refl, sym, subst}
use Rattle.rom_combine.specs.Costs.{WithinHeap}
use Rattle.rom_recover.specs.Recovered.{Mends}

-- It lies within the heap.
pub mends_within : (n : ℕ) (x y : List ℕ) → Mends n x y → WithinHeap n x y
mends_within n x y (inl same) = subst (λ (z : List ℕ). WithinHeap n x z) (sym same) record { as_long = refl; before = λ k h other. refl; behind = λ k h. refl }
mends_within n x y (inr mended) = mended.takes.others
