-- How many elements there is room for.
use Rattle.std.proofs.Common.{◌≡◌, ℕ, ◌+◌, ◌-◌, ◌^◌, ◌≤◌, arith, ap}
use Rattle.rom_model.specs.State.{State, cap, live}
use Rattle.rom_model.proofs.Nodes.{pow_up}

-- a greater order has room for as many
pub cap_more : (n m : ℕ) (s : State) → n ≤ m → live s ≤ cap n → live s ≤ cap m
cap_more n m s above fits =
    let e : (n - 4) + ((m - 4) - (n - 4)) ≡ m - 4 = omega (arith, above) in
    omega (arith, fits, pow_up (n - 4) ((m - 4) - (n - 4)), ap (λ k. 2 ^ k) e)

-- and no heap has room for more than 61,440
pub cap_most : (n : ℕ) → n ≤ 16 → cap n ≤ 61440
cap_most n most =
    let e : (n - 4) + (12 - (n - 4)) ≡ 12 = omega (arith, most) in
    omega (arith, pow_up (n - 4) (12 - (n - 4)), ap (λ k. 2 ^ k) e)
