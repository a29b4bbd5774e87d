-- Frames that are taken behind others.
use Rattle.std.proofs.Common.{◌≡◌, ℕ, ◌+◌, ◌≤◌, ◌==◌, Bool, true, false, if◌then◌else◌, List, [], ◌∷◌, ◌++◌, length, arith, eq-eqb}
use Rattle.rom_frame.specs.declared.frame.Frame.{Frame}
use Rattle.rom_replica.specs.Turns.{applied, count_behind}
use Rattle.rom_tail.specs.Batches.{many_next}

-- no more are applied than there are
pub applied_few : (n : ℕ) (fs : List Frame) → many_next n fs ≤ length fs
applied_few n [] = omega arith
applied_few n (f ∷ fs) = by (f.place == n) (applied_few (count_behind n f) fs)
  where
    by : (b : Bool) → many_next (count_behind n f) fs ≤ length fs → length ((if b then f ∷ [] else []) ++ applied (count_behind n f) fs) ≤ length (f ∷ fs)
    by true few = omega (arith, few)
    by false few = omega (arith, few)

-- one whose place is the count is the first that is applied
pub applied_first : (n : ℕ) (f : Frame) (fs : List Frame) → f.place ≡ n → applied n (f ∷ fs) ≡ f ∷ applied (n + 1) fs
applied_first n f fs is =
    (λ i. (if eq-eqb f.place n is i then f ∷ [] else []) ++ applied (if eq-eqb f.place n is i then n + 1 else n) fs)
