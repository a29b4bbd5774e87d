-- What a repair writes, how often it syncs, and what it leaves.
use Rattle.std.specs.Prelude.{ℕ, ◌+◌, List, Result, OnOk, IsTrue}
use Rattle.rom_model.specs.Blocks.{region_len}
use Rattle.rom_model.specs.Space.{Looks, ShownSpace}
use Rattle.rom_device.specs.Device.{ShownDevice, Becomes, Does, Makes, Runs}
use Rattle.rom_header.specs.Layout.{MAIN, back_at}
use Rattle.rom_header.specs.Writing.{StateOrWithin}
use Rattle.rom_twin.specs.Images.{Twins, Rewriting, Repairable}
use Rattle.rom_twin.specs.declared.phase.Phase.{Phase}
use Rattle.rom_twin.specs.declared.phase.Phase.TheVariants.{Redo}

-- where the region begins that it rewrites: back in `Redo`, and else main
abbrev pub rewritten_at : Phase → ℕ → ℕ
rewritten_at Redo n = back_at n
rewritten_at other n = MAIN

-- how many writes the region takes, and before it MUTATING but for `Redo`
abbrev pub rewriting_writes : Phase → ℕ → ℕ
rewriting_writes Redo n = region_len n
rewriting_writes other n = region_len n + 1

-- these, and then IDLE
abbrev pub repair_writes : Phase → ℕ → ℕ
repair_writes phase n = rewriting_writes phase n + 1

-- one sync after the region, and one before it but for `Redo`
abbrev pub repair_syncs : Phase → ℕ
repair_syncs Redo = 1
repair_syncs other = 2

-- The region that may differ is rewritten from a space's words, and made certain. If each image before was one that a repair in that phase asks for, both regions are these words then, and each image on the way is one of `Rewriting`.
pub record Restores {D M T E : Type 0} (device : ShownDevice D) (space : ShownSpace M) (order : ℕ) (phase : Phase) (old new : D) (from to : M) (result : Result T E) : Type 0 where
  pub looks : Looks space (region_len order) from to
  pub now : IsTrue device.tells_images → ((i : List ℕ) → device.leaves old i → Repairable phase order (space.image from) i)
      → OnOk result ((i : List ℕ) → device.leaves new i → Twins order (space.image from) i)
  pub since : IsTrue device.tells_images → ((i : List ℕ) → device.leaves old i → Repairable phase order (space.image from) i)
      → Runs device (Becomes (Rewriting phase order (space.image from))) old new
  pub does : Does device (StateOrWithin (rewritten_at phase order) (region_len order)) old new
  pub makes : Makes device 0 (rewriting_writes phase order) (repair_syncs phase) old new result
