-- What is known of a word as the calls made go by.
use Rattle.std.specs.Prelude.{◌≡◌, ℕ, ◌+◌, ◌<◌, ◌≤◌, List, length, slice_index}
use Rattle.rom_device.specs.Log.{words_after}
use Rattle.rom_device.specs.Choice.{possible}
use Rattle.rom_device.specs.declared.call.LoggedCall.{LoggedCall}
use Rattle.rom_device.specs.declared.followed.Followed.{Followed}

-- a log has the newest call first
pub record IsFollowed (base : List ℕ) (log : List LoggedCall) (word : Followed) : Type 0 where
  pub reads : word.reads ≡ slice_index (words_after base log) word.at
  pub count : word.count ≡ length (possible base log word.at)
  pub some : 0 < word.count
  pub most : word.count ≤ length log + 1
  pub value : word.number < word.count → word.value ≡ slice_index (possible base log word.at) word.number
