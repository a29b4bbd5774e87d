-- What is carried over of a heap by lines, what is told of its sizes, and what a greater region stands for.
use Rattle.std.specs.Prelude.{◌≡◌, ◌≤◌, ℕ, List}
use Rattle.rom_carry.specs.Carried.{AreCarrying, Bounds, CarriesOver, StaysIn, TellsOf}
use Rattle.rom_model.specs.Region.{Contents}
use Rattle.rom_model.specs.State.{State, cap, live, value_of}
use Rattle.rom_model.specs.Trio.{trio}
use Rattle.rom_model.specs.declared.call.Reply.{Reply}
use Rattle.rom_model.specs.declared.call.Reply.TheVariants.{Full}
use Rattle.rom_rebuild.specs.Elements.{AreElements}
use Rattle.rom_rebuild.specs.Lines.{element_lines}
use Rattle.rom_rebuild.specs.Measures.{measures_text}
use Rattle.rom_rebuild.specs.declared.elements.element.Element.{Element}
use Rattle.rom_script.specs.Lines.{ReadsTrio}
use Rattle.rom_script.specs.Stat.{stat_text}

-- Two states have the same elements: the queue, the set, and of each key the value. When a value was written is not among them.
pub record SameElements (s t : State) : Type 0 where
  pub queue : t.queue ≡ s.queue
  pub members : t.members ≡ s.members
  pub values : (key : ℕ) → value_of t key ≡ value_of s key

-- the reply tells that the heap is full
abbrev pub IsRefused : Reply → Type 0
IsRefused reply = reply ≡ Full

-- A line has at most 384 bytes: `tx`, and eight members of 45, which is `put` and two numbers of 20 digits. A heap has at most 61,440 elements, which are 7,680 lines.
abbrev pub bounds : Bounds
bounds = record { longest = 384; part = 2560; parts = 3 }

-- The lines are those of the elements of a state, eight to a line, and carry it over from a heap of this order, which has room for it.
pub record Carries (order : ℕ) (s : State) (lines : List (List ℕ)) : Type 0 where
  pub elements : List Element
  pub are : AreElements s elements
  pub lines_are : lines ≡ element_lines elements
  pub room : live s ≤ cap order
  pub carry : AreCarrying trio ReadsTrio SameElements IsRefused bounds order s lines

-- the lines carry over what a region stands for
abbrev pub Carrying : ℕ → List ℕ → List (List ℕ) → Type 0
Carrying = CarriesOver Contents Carries

-- the text is the five lines of the state and the count
abbrev pub Sized : ℕ → List ℕ → List ℕ → Type 0
Sized = TellsOf Contents (λ order s k text. text ≡ stat_text order s k)

-- the text is the gauges of the state
abbrev pub Measured : ℕ → List ℕ → List ℕ → Type 0
Measured = TellsOf Contents (λ order s k text. text ≡ measures_text order s)

-- the greater region stands for the same state, with the same stamps
abbrev pub Grown : ℕ → List ℕ → ℕ → List ℕ → Type 0
Grown = StaysIn Contents (λ s t. t ≡ s)
