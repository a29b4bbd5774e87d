-- Values that no opening has.
use Rattle.std.specs.Prelude.{[], None, false}
use Rattle.atomic_table.specs.Seated.{TableId}
use Rattle.rom_combine.specs.Shipping.{Shipped}
use Rattle.rom_rule.specs.declared.views.Base.{Base}
use Rattle.rom_store.specs.Start.{Start}

-- a table without words and slots
abbrev pub no_table : TableId
no_table = record { words = 0; slots = 0; views_name = 0; atom = 0; block = 0; offset = 0; slot_names = [] }

-- an opening of an image without words, for one caller
abbrev pub no_base : Base
no_base = record { order = 4; callers = 1; image = []; faults = 0 }

-- a device without words, at the moment 0, on which nothing was called
abbrev pub no_start : Start
no_start = record { size = 0; words = []; clock = 0; reads = 0; writes = 0; syncs = 0 }

-- nothing that was handed on
abbrev pub no_ships : Shipped
no_ships = record { taken = None; faults = 0; failing = false }
