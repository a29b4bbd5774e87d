-- How an ordered index is carried over, and what is told of its size.
use Rattle.std.specs.Prelude.{◌≡◌, ℕ, List, map}
use Rattle.std.specs.FinMap as finite
use Rattle.rom_carry.specs.Carried.{AreCarrying}
use Rattle.rom_order.specs.Index.{index}
use Rattle.rom_order.specs.Lines.{ReadsIndex}
use Rattle.rom_order_region.specs.State.{Pairs}
use Rattle.rom_order_region.specs.declared.call.OrderReply.{OrderReply}
use Rattle.rom_order_region.specs.declared.call.OrderReply.TheVariants.{Full}
use Rattle.rom_order_carry.specs.Entries.{ORDER_BOUNDS, entry_line}
use Rattle.rom_order_carry.specs.Sizes.{measures_text, sizes_text}

-- a map stays that very map
abbrev pub SameIndex : Pairs → Pairs → Type 0
SameIndex s t = t ≡ s

-- what refuses an update
abbrev pub IsFull : OrderReply → Type 0
IsFull reply = reply ≡ Full

-- Each entry of this map has a line, and keys rise. Done in a new heap of this order, or of a greater one, the lines give this very map again, and none is told that the heap is full.
abbrev pub CarriesIndex : ℕ → Pairs → List (List ℕ) → Type 0
CarriesIndex order s lines = (lines ≡ map entry_line (finite.entries s)) × AreCarrying index ReadsIndex SameIndex IsFull ORDER_BOUNDS order s lines

-- the text tells the sizes
abbrev pub TellsSizes : ℕ → Pairs → ℕ → List ℕ → Type 0
TellsSizes order s count text = text ≡ sizes_text order s count

-- the text is what a monitor watches
abbrev pub TellsMeasures : ℕ → Pairs → ℕ → List ℕ → Type 0
TellsMeasures order s count text = text ≡ measures_text order s count
