-- The laws that the traits ask for.
use Rattle.std.specs.Prelude.{◌≡◌, ℕ, ◌+◌, ◌*◌, ◌<◌, ◌≤◌, List}
use Rattle.std.proofs.Common.{refl, ap, arith}
use Rattle.rom_heap.specs.Laws.{one_contents}
use Rattle.rom_model.specs.Region.{Contents}
use Rattle.rom_model.specs.State.{State}
use Rattle.rom_rebuild.specs.Carried.{Measured, Sized, bounds}
use Rattle.rom_rebuild.specs.Measures.{measures_text}
use Rattle.rom_script.specs.Stat.{stat_text}

-- the constant is what the bounds say
pub part_is : bounds.part ≡ 2560
part_is = refl

-- a part is within what a script may have
pub part_fits : (0 < bounds.part) × (bounds.part * (bounds.longest + 1) ≤ 1048576) × (bounds.part ≤ 131072)
part_fits = (omega arith, omega arith, omega arith)

-- there are no more lines than that, and no more parts
pub at_most : (bounds.part * bounds.parts ≤ 61440) × (bounds.parts ≤ 64)
at_most = (omega arith, omega arith)

-- a region that stands for a state and a count has the five lines of these
pub some_sizes : (order : ℕ) (words : List ℕ) (s : State) (k : ℕ) → Contents order words s k → (text : List ℕ) × Sized order words text
some_sizes order words s k held = (stat_text order s k, λ t j other. let same = one_contents order words s t k j held other in λ i. stat_text order (same.0 i) (same.1 i))

-- and the gauges of the state
pub some_measures : (order : ℕ) (words : List ℕ) (s : State) (k : ℕ) → Contents order words s k → (text : List ℕ) × Measured order words text
some_measures order words s k held = (measures_text order s, λ t j other. ap (measures_text order) (one_contents order words s t k j held other).0)
