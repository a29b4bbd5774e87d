-- What a monitor watches of a heap.
use Rattle.std.specs.Prelude.{ℕ, ◌-◌, ◌*◌, ◌/◌, List, ◌++◌, codes, length}
use Rattle.std.specs.FinMap as map
use Rattle.std.specs.FinSet as set
use Rattle.rom_carry.specs.Gauges.{gauge_text}
use Rattle.rom_model.specs.State.{State, cap, live, total_of}
use Rattle.rom_rebuild.specs.declared.measures.Measures.{Measures}

-- six gauges: how many elements each structure has, how many more there is room for, how much of the room that is in per cent, and the sum of the map's values
abbrev pub gauges_text : Measures → List ℕ
gauges_text m = gauge_text (codes "queue_elements") m.queue ++ (gauge_text (codes "set_elements") m.members ++ (gauge_text (codes "map_elements") m.keys
    ++ (gauge_text (codes "free_elements") m.free ++ (gauge_text (codes "free_percent") m.percent ++ gauge_text (codes "total") m.total))))

-- those of a heap of this order with this state
abbrev pub measures_of : ℕ → State → Measures
measures_of order s = record {
  queue = length s.queue;
  members = set.len s.members;
  keys = map.len s.pairs;
  free = cap order - live s;
  percent = (cap order - live s) * 100 / cap order;
  total = total_of s;
}

-- the gauges of a heap
abbrev pub measures_text : ℕ → State → List ℕ
measures_text order s = gauges_text (measures_of order s)
