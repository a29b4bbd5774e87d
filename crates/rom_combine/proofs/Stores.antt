-- Room for the stores of calls, each of at most so many.
use Rattle.std.proofs.Common.{ℕ, ◌+◌, ◌*◌, ◌<◌, ◌≤◌, arith}
use Rattle.std.proofs.Math.Nat.{mul-le-mul_left}

-- of so many calls the next one has room for its stores
pub room_for : (stores i many added room : ℕ) → i < many → added ≤ stores * i → stores * many ≤ room → added + stores ≤ room
room_for stores i many added room lt most fits = let le : i + 1 ≤ many = omega (arith, lt) in omega (arith, most, fits, mul-le-mul_left stores le)
