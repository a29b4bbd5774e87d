-- The values that each word may have after a stop, and the one that a choice picks.
use Rattle.std.specs.Prelude.{ℕ, ◌%◌, ◌==◌, if◌then◌else◌, true, false, List, [], ◌∷◌, ◌++◌, length, slice_index}
use Rattle.rom_device.specs.Log.{words_after}
use Rattle.rom_device.specs.declared.call.LoggedCall.{LoggedCall}
use Rattle.rom_device.specs.declared.call.LoggedCall.TheVariants.{Read, Write, Sync}

-- The last synced value of a word, and then the values written to it since, in order. The value of a write
-- that failed is one of them: the device may have written it. The log has the newest call first.
abbrev pub possible : List ℕ → List LoggedCall → ℕ → List ℕ
possible base [] k = slice_index base k ∷ []
possible base (Read at ∷ log) k = possible base log k
possible base (Write at value lands ∷ log) k = if at == k then possible base log k ++ value ∷ [] else possible base log k
possible base (Sync true ∷ log) k = slice_index (words_after base log) k ∷ []
possible base (Sync false ∷ log) k = possible base log k

-- the possible value of that number, modulo how many there are
abbrev pub picked : List ℕ → List LoggedCall → ℕ → ℕ → ℕ
picked base log k number = slice_index (possible base log k) (number % length (possible base log k))
