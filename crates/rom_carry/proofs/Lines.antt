-- Lemmas on lines that stand side by side.
use Rattle.std.proofs.Common.{◌≡◌, ℕ, ◌-◌, ◌≤◌, List, length, drop, arith}
use Rattle.std.proofs.lemmas.List.{length-take, length-drop}
use Rattle.rom_carry.specs.Scripts.{between}

pub between_length : (from to : ℕ) (lines : List (List ℕ)) → from ≤ to → to ≤ length lines → length (between from to lines) ≡ to - from
between_length from to lines order within = omega (arith, length-take (to - from) (drop from lines), length-drop from lines, order, within)
