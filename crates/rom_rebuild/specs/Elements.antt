-- The elements of a state, in the order in which a script puts them in again.
use Rattle.std.specs.Prelude.{◌≡◌, ℕ, ◌^◌, ◌<◌, List, [], ◌∷◌, ◌++◌, map, reverse}
use Rattle.std.specs.Ordering.{nat_cmp}
use Rattle.std.specs.FinSet as set
use Rattle.std.specs.FinMap as finite
use Rattle.rom_model.specs.Rising.{IsRising}
use Rattle.rom_model.specs.State.{State}
use Rattle.rom_rebuild.specs.declared.elements.element.Element.{Element}
use Rattle.rom_rebuild.specs.declared.elements.element.Element.TheVariants.{Value, Member, Pair}
use Rattle.rom_rebuild.specs.declared.elements.elements.Elements.{Elements}

-- an element, as contracts see it
abbrev pub ElementSeen : Type 0
ElementSeen = Element

-- These are the elements of a state, in this order: the values of the queue from first to last, the numbers of the set, which fall, and the map's keys, which rise, each with its value.
pub record AreElements (s : State) (elements : List Element) : Type 0 where
  pub numbers : List ℕ
  pub rising : IsRising numbers
  pub members : set.from_list {R = nat_cmp} numbers ≡ s.members
  pub are : elements ≡ map Value s.queue ++ (map Member (reverse numbers) ++ map (λ e. Pair e.0 e.1.value) (finite.entries s.pairs))

-- keys with their values
abbrev pub paired : List ℕ → List ℕ → List Element
paired [] values = []
paired (key ∷ keys) [] = []
paired (key ∷ keys) (value ∷ values) = Pair key value ∷ paired keys values

-- those that were taken from a region
abbrev pub elements_in : Elements → List Element
elements_in e = map Value e.queue.items ++ (map Member (reverse e.members.items) ++ paired e.keys.items e.values.items)

-- its numbers have at most 64 bits
abbrev pub ElementFits : Element → Type 0
ElementFits (Value v) = v < 2 ^ 64
ElementFits (Member k) = k < 2 ^ 64
ElementFits (Pair k v) = (k < 2 ^ 64) × (v < 2 ^ 64)
