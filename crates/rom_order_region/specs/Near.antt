-- The least key that is at least another one.
use Rattle.std.specs.Prelude.{◌≡◌, ℕ, ◌+◌, List, Option, Some, None, slice_index}
use Rattle.rom_order_region.specs.declared.tree.find.Near.{Near}
use Rattle.rom_order_region.specs.Tree.{Tree, entries}
use Rattle.rom_order_region.specs.Query.{first_from}

-- It is the key of that node, if there is one.
abbrev pub IsNear : List ℕ → Tree → ℕ → Option Near → Type 0
IsNear words t key None = first_from key (entries t) ≡ None
IsNear words t key (Some near) = first_from key (entries t) ≡ Some (near.key, slice_index words (near.node + 1))
