-- What is told of the size of an ordered index.
use Rattle.std.specs.Prelude.{ℕ, ◌-◌, ◌*◌, ◌/◌, List, ◌++◌, codes, decimal}
use Rattle.std.specs.FinMap as map
use Rattle.rom_carry.specs.Gauges.{gauge_text}
use Rattle.rom_text.specs.Text.{line_text}
use Rattle.rom_order_region.specs.Query.{total}
use Rattle.rom_order_region.specs.Region.{room_for}
use Rattle.rom_order_region.specs.State.{Pairs}

-- for how many more keys there is room
abbrev pub free_keys : ℕ → Pairs → ℕ
free_keys order s = room_for order - map.len s

-- The order, the count, how many keys there are, for how many more there is room, and the sum of the values.
abbrev pub sizes_text : ℕ → Pairs → ℕ → List ℕ
sizes_text order s count =
    line_text (codes "order " ++ decimal order) ++ (line_text (codes "count " ++ decimal count) ++ (line_text (codes "keys " ++ decimal (map.len s))
    ++ (line_text (codes "free " ++ decimal (free_keys order s)) ++ line_text (codes "total " ++ decimal (total (map.entries s))))))

-- The gauges that a monitor reads.
abbrev pub measures_text : ℕ → Pairs → ℕ → List ℕ
measures_text order s count =
    gauge_text (codes "keys") (map.len s) ++ (gauge_text (codes "free_keys") (free_keys order s) ++ (gauge_text (codes "free_percent") (free_keys order s * 100 / room_for order)
    ++ gauge_text (codes "total") (total (map.entries s))))
