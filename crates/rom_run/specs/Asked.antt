-- What a command asks for, as a use of a heap.
use Rattle.std.specs.Prelude.{◌≡◌, ◌<◌, ◌≤◌, ℕ, Option, Some, None}
use Rattle.rom_model.specs.Blocks.{IsOrder}
use Rattle.rom_run.specs.Use.{Use, Plays, Makes, Read, IsPlayable}
use Rattle.rom_run.specs.declared.program.Asked.{Asked}
use Rattle.rom_run.specs.declared.program.Asked.TheVariants.{Play, Make}

-- the use of a heap that the command asks for
abbrev pub asked_use : Option Asked → Option Use
asked_use (Some (Play heap)) = Some (Plays heap Read)
asked_use (Some (Make order)) = Some (Makes order)
asked_use None = None

-- a heap that is made is of an order that there is
abbrev pub IsAskedOf : Asked → Type 0
IsAskedOf (Play heap) = IsPlayable heap
IsAskedOf (Make order) = IsOrder order

-- where scripts are played, there are 1 to 16, and else none
abbrev pub HasSources : ℕ → Asked → Type 0
HasSources many (Play heap) = (0 < many) × (many ≤ 16)
HasSources many (Make order) = many ≡ 0
