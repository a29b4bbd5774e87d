-- The lines that put elements into a heap: eight in each, and in the last one those that are left.
use Rattle.std.specs.Prelude.{ℕ, zero, suc, ◌+◌, ◌-◌, ◌*◌, ◌/◌, ◌==◌, List, [], ◌∷◌, ◌++◌, codes, drop, if◌then◌else◌, length, map, take}
use Rattle.rom_model.specs.Singles.{call_of}
use Rattle.rom_model.specs.declared.call.Call.{Call}
use Rattle.rom_model.specs.declared.call.Call.TheVariants.{Group}
use Rattle.rom_model.specs.declared.call.Single.{Single}
use Rattle.rom_model.specs.declared.call.Single.TheVariants.{Enq, Add, Put}
use Rattle.rom_rebuild.specs.declared.elements.element.Element.{Element}
use Rattle.rom_rebuild.specs.declared.elements.element.Element.TheVariants.{Value, Member, Pair}
use Rattle.rom_script.specs.Lines.{call_line, single_line}

-- the update that puts an element in
abbrev pub insertion_of : Element → Single
insertion_of (Value v) = Enq v
insertion_of (Member k) = Add k
insertion_of (Pair k v) = Put k v

-- how it is written
abbrev pub element_line : Element → List ℕ
element_line e = single_line (insertion_of e)

-- the update that puts in one element, or several as a group
abbrev pub insertions_of : List Element → Call
insertions_of (e ∷ []) = call_of (insertion_of e)
insertions_of es = Group (map insertion_of es)

-- how it is written
abbrev pub group_line : List Element → List ℕ
group_line es = call_line (insertions_of es)

-- the elements by so many groups: each has the next eight, or those that are left
abbrev pub groups : ℕ → List Element → List (List Element)
groups zero es = []
groups (suc more) es = take 8 es ∷ groups more (drop 8 es)

-- how many groups so many elements make
abbrev pub groups_needed : ℕ → ℕ
groups_needed many = (many + 7) / 8

-- all groups of the elements
abbrev pub groups_of : List Element → List (List Element)
groups_of es = groups (groups_needed (length es)) es

-- a line for each group, in order
abbrev pub element_lines : List Element → List (List ℕ)
element_lines es = map group_line (groups_of es)

-- the elements from that index on up to the other one
abbrev pub span : ℕ → ℕ → List Element → List Element
span from to es = take (to - from) (drop from es)

-- the elements of the group of this number, counted from 0
abbrev pub group_at : ℕ → List Element → List Element
group_at number es = take 8 (drop (number * 8) es)

-- what stands before the first of so many elements in a line
abbrev pub front_of : ℕ → List ℕ
front_of many = if many == 1 then [] else codes "tx "

-- how an element is written behind another one
abbrev pub behind_text : Element → List ℕ
behind_text e = codes " ; " ++ element_line e
