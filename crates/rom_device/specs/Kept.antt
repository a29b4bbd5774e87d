-- What is known of an older word as the calls made go by.
use Rattle.std.specs.Prelude.{◌≡◌, List, ℕ}
use Rattle.rom_device.specs.Older.{handed, stale}
use Rattle.rom_device.specs.declared.call.LoggedCall.{LoggedCall}
use Rattle.rom_device.specs.declared.kept.Kept.{Kept}

-- a log has the newest call first
pub record IsKeptWord (older base : List ℕ) (log : List LoggedCall) (word : Kept) : Type 0 where
  pub handed_is : word.handed ≡ handed log word.at
  pub stale_is : word.stale ≡ stale older base log word.at
