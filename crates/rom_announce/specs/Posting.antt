-- What a post leaves.
use Rattle.std.specs.Prelude.{◌≡◌, ◌+◌, List, ℕ, [], ◌∷◌, ◌++◌, length}
use Rattle.rom_lr.specs.Seats.{view}
use Rattle.rom_lr.specs.declared.seats.Seat.{Seat}
use Rattle.rom_rule.specs.Calls.{packed}

-- The call with these words is posted, behind those that the caller posted before, in two steps more than it has words. Nothing else of the caller's view changes.
abbrev pub HasPosted : Seat → Seat → List ℕ → Type 0
HasPosted s t words = let v = view s in view t ≡ record v { calls = v.calls ++ words ∷ []; laid = packed words; since = length v.seen; steps = v.steps + length words + 2 }
