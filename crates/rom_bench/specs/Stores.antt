-- Labels of stores.
use Rattle.std.specs.Prelude.{◌≡◌, ℕ, List, IsTrue}
use Rattle.atomic_table.specs.Seated.{TableId}
use Rattle.rom_device.specs.Device.{ShownDevice}
use Rattle.rom_rule.specs.Views.{base_of}
use Rattle.rom_rule.specs.declared.views.Base.{Base}
use Rattle.rom_store.specs.Openings.{Started}
use Rattle.rom_store.specs.Start.{Start, device_start}

-- The parts of a label are those of this opening: its table, the heap as it was opened, and its device with what a stop leaves of it.
abbrev pub IsLabelled : {D : Type 0} → ShownDevice D → TableId → Base → Start → (ℕ → List ℕ → Type 0) → Started D → Type 0
IsLabelled shown table base start since o = (table ≡ o.table_id)
    × (base ≡ base_of o.key)
    × (start ≡ device_start shown o.device)
    × (IsTrue shown.tells_images → (t : ℕ) (i : List ℕ) → (since t i → shown.left_since o.device t i) × (shown.left_since o.device t i → since t i))
