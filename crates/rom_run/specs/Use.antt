-- What a command does with a heap.
use Rattle.std.specs.Prelude.{◌≡◌, ◌⊎◌, ℕ, Option, Some, None}
use Rattle.rom_model.specs.Blocks.{IsOrder}
use Rattle.rom_run.specs.declared.heap.Heap.{Heap}
use Rattle.rom_run.specs.declared.heap.Heap.TheVariants.{New, Standing, Upgraded}

-- where the scripts come from that are played
pub data Scripts : Type 0 where
  -- from sources
  Read : Scripts
  -- they are drawn
  Drawn : Scripts

-- what a command does with the heap of its device
pub data Use : Type 0 where
  -- plays scripts on this heap
  Plays : Heap → Scripts → Use
  -- makes a heap of this order
  Makes : ℕ → Use
  -- shows the heap that stands
  Shows : Use
  -- makes the heap of version 1 that stands one of version 2
  Upgrades : Use

-- the heap that a use is of
abbrev pub heap_of : Use → Heap
heap_of (Plays heap scripts) = heap
heap_of (Makes order) = New order
heap_of Shows = Standing
heap_of Upgrades = Upgraded

-- scripts are played on a heap that is made of an order that there is, or on one that stands; on none that is only upgraded
abbrev pub IsPlayable : Heap → Type 0
IsPlayable (New order) = IsOrder order
IsPlayable Standing = Unit {0}
IsPlayable Upgraded = ⊥

-- the statuses with which it may end
abbrev pub IsStatus : Option Use → ℕ → Type 0
IsStatus (Some (Plays heap Read)) status = (status ≡ 0) ⊎ (status ≡ 1) ⊎ (status ≡ 3) ⊎ (status ≡ 4) ⊎ (status ≡ 5) ⊎ (status ≡ 6) ⊎ (status ≡ 7) ⊎ (status ≡ 8)
IsStatus (Some (Plays heap Drawn)) status = (status ≡ 0) ⊎ (status ≡ 3) ⊎ (status ≡ 5) ⊎ (status ≡ 6) ⊎ (status ≡ 7)
IsStatus (Some (Makes order)) status = (status ≡ 0) ⊎ (status ≡ 3) ⊎ (status ≡ 6) ⊎ (status ≡ 7)
IsStatus (Some Shows) status = (status ≡ 0) ⊎ (status ≡ 3) ⊎ (status ≡ 6) ⊎ (status ≡ 7)
IsStatus (Some Upgrades) status = (status ≡ 0) ⊎ (status ≡ 3) ⊎ (status ≡ 6) ⊎ (status ≡ 7)
IsStatus None status = status ≡ 2

-- With these it has played its scripts, or shown its heap, and leaves a session. With 7 it may have played: then an update was told that the device failed.
abbrev pub HasRun : Option Use → ℕ → Type 0
HasRun (Some (Plays heap scripts)) status = (status ≡ 0) ⊎ (status ≡ 1) ⊎ (status ≡ 5)
HasRun (Some (Makes order)) status = ⊥
HasRun (Some Shows) status = status ≡ 0
HasRun (Some Upgrades) status = ⊥
HasRun None status = ⊥

-- With these it has done neither, and leaves none.
abbrev pub HasNotRun : Option Use → ℕ → Type 0
HasNotRun (Some (Plays heap scripts)) status = (status ≡ 3) ⊎ (status ≡ 4) ⊎ (status ≡ 6) ⊎ (status ≡ 8)
HasNotRun (Some (Makes order)) status = Unit {0}
HasNotRun (Some Shows) status = (status ≡ 3) ⊎ (status ≡ 6) ⊎ (status ≡ 7)
HasNotRun (Some Upgrades) status = Unit {0}
HasNotRun None status = Unit {0}

-- With these every script was read to its end.
abbrev pub HasRead : ℕ → Type 0
HasRead status = (status ≡ 0) ⊎ (status ≡ 1) ⊎ (status ≡ 3) ⊎ (status ≡ 5) ⊎ (status ≡ 7)
