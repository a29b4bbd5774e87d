-- A device that has room for a heap has room for its header.
use Rattle.std.proofs.Common.{ℕ, ◌<◌, ◌≤◌, arith}
use Rattle.rom_header.specs.Layout.{words_needed}

pub room_for_header : (order size : ℕ) → words_needed order ≤ size → size < 8 → ⊥
room_for_header order size fits few = omega (arith, fits, few)
