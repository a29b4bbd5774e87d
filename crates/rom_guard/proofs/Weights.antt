-- The size of a group and its weight bound its stores.
use Rattle.std.proofs.Common.{◌≡◌, ℕ, suc, ◌+◌, ◌-◌, ◌*◌, ◌≤◌, max, true, ap, ◌∙◌, arith}
use Rattle.std.proofs.Math.Nat.{mul-add, mul-le-mul_left, suc-mul}
use Rattle.rom_model.specs.Groups.{is_size}
use Rattle.rom_guard.specs.Wording.{size_least, size_most}

-- what eight members store over is enough for a group
pub cells_enough : (s n cells : ℕ) → 8 * (s - 1) ≤ cells → n ≤ 8 → (s - 1) * n ≤ cells
cells_enough s n cells enough few =
    let most : (s - 1) * n ≤ (s - 1) * 8 = mul-le-mul_left (s - 1) few in
    omega (arith, most, enough)

-- it weighs at most 16
pub weight_most : (n w : ℕ) → is_size n ≡ true → 2 * n ≤ max w 16
weight_most n w size = let few = size_most n size in omega arith

-- a group of n members is counted, and what each stores may be rolled back
pub group_fits : (s n : ℕ) → 1 ≤ s → 1 ≤ n → 1 + 2 * ((s - 1) * n) ≤ s * (2 * n)
group_fits s n least some =
    let next : s ≡ suc (s - 1) = omega (arith, least) in
    let two : 2 * n ≡ n + n = omega arith in
    let whole : s * (2 * n) ≡ s * n + s * n = ap (λ (x : ℕ). s * x) two ∙ mul-add s n n in
    let each : s * n ≡ (s - 1) * n + n = ap (λ (x : ℕ). x * n) next ∙ suc-mul (s - 1) n in
    omega (arith, whole, each, some)

-- it fits where the greatest weight does
pub most_fits : (s n w : ℕ) → 1 ≤ s → is_size n ≡ true → 1 + 2 * ((s - 1) * n) ≤ s * max w 16
most_fits s n w least size =
    let fits = group_fits s n least (omega (arith, size_least n size)) in
    let light : 2 * n ≤ max w 16 = weight_most n w size in
    let whole : s * (2 * n) ≤ s * max w 16 = mul-le-mul_left s light in
    omega (arith, fits, whole)
