-- What a stop may leave since a moment before calls that wrote nothing.
use Rattle.std.proofs.Common.{ℕ, ◌≤◌, List}
use Rattle.rom_device.specs.Device.{ShownDevice, Leaves, Runs, Stays}
use Rattle.rom_device.proofs.Going.{leaves_none, leaves_still, leaves_then}

pub leaves_from : {D : Type 0} (shown : ShownDevice D) (P Q : List ℕ → Type 0) (a b c : D) → ((t : ℕ) (i : List ℕ) → t ≤ shown.clock a → shown.leaves a i → shown.left_since a t i)
    → Runs shown Stays a b → ((i : List ℕ) → Q i → P i) → Leaves shown Q b c → Leaves shown P a c
leaves_from shown P Q a b c counts still is since = leaves_then shown P Q a b c is (leaves_still shown P a a b counts (leaves_none shown P a) still) since
