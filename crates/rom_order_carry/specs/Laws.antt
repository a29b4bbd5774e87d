-- The laws of the bounds and of the texts, which the traits ask for.
use Rattle.std.specs.Prelude.{◌≡◌, ℕ, ◌+◌, ◌*◌, ◌<◌, ◌≤◌, List}
use Rattle.std.proofs.Common.{refl, arith}
use Rattle.rom_carry.specs.Carried.{TellsOf}
use Rattle.rom_order.specs.Laws.{one_index_contents}
use Rattle.rom_order_region.specs.Region.{IndexContents}
use Rattle.rom_order_region.specs.State.{Pairs}
use Rattle.rom_order_carry.specs.Carries.{TellsMeasures, TellsSizes}
use Rattle.rom_order_carry.specs.Entries.{ORDER_BOUNDS}
use Rattle.rom_order_carry.specs.Sizes.{measures_text, sizes_text}

-- how many lines a part has, as the code has it
pub part_is : ORDER_BOUNDS.part ≡ 20480
part_is = refl

-- a part is within what a script may have
pub part_fits : (0 < ORDER_BOUNDS.part) × (ORDER_BOUNDS.part * (ORDER_BOUNDS.longest + 1) ≤ 1048576) × (ORDER_BOUNDS.part ≤ 131072)
part_fits = (omega arith, omega arith, omega arith)

-- both parts have no more lines than any heap has elements at most
pub at_most : (ORDER_BOUNDS.part * ORDER_BOUNDS.parts ≤ 61440) × (ORDER_BOUNDS.parts ≤ 64)
at_most = (omega arith, omega arith)

-- a region stands for one map and one count, and so has one text of its sizes
pub some_index_sizes : (order : ℕ) (words : List ℕ) (s : Pairs) (k : ℕ) → IndexContents order words s k → (text : List ℕ) × TellsOf IndexContents TellsSizes order words text
some_index_sizes order words s k held = (sizes_text order s k, λ t j other. let same = one_index_contents order words s t k j held other in λ i. sizes_text order (same.0 i) (same.1 i))

-- and one of its gauges
pub some_index_measures : (order : ℕ) (words : List ℕ) (s : Pairs) (k : ℕ) → IndexContents order words s k → (text : List ℕ) × TellsOf IndexContents TellsMeasures order words text
some_index_measures order words s k held = (measures_text order s k, λ t j other. let same = one_index_contents order words s t k j held other in λ i. measures_text order (same.0 i) (same.1 i))
