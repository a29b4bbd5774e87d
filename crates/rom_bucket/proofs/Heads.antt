-- Where a bucket's word stands in the table.
use Rattle.std.proofs.Common.{◌≡◌, ℕ, ◌+◌, ◌-◌, ◌*◌, ◌%◌, ◌^◌, ◌<◌, ◌≤◌, sym, ◌∙◌, ap, arith}
use Rattle.std.proofs.lemmas.Nat.{pow-add}
use Rattle.std.proofs.Math.Nat.{div-lt_iff_lt-mul}
use Rattle.rom_model.specs.Blocks.{block_of}
use Rattle.rom_model.specs.Region.{buckets, bucket_of}
use Rattle.rom_model.proofs.Members.{quarter_pow}
use Rattle.rom_bucket.specs.Walk.{head_of}

pub bucket_within : (n key : ℕ) → 4 ≤ n → n ≤ 16 → bucket_of n key < buckets n
bucket_within n key least most =
    let x : ℕ = key * 11400714819323198485 % 18446744073709551616 in
    let e : (n - 2) + (66 - n) ≡ 64 = omega arith in
    let split : 2 ^ (n - 2) * 2 ^ (66 - n) ≡ 2 ^ 64 = sym (pow-add 2 (n - 2) (66 - n)) ∙ ap (λ a. 2 ^ a) e in
    let small : x < 2 ^ (n - 2) * 2 ^ (66 - n) = omega (arith, split) in
    let positive : 0 < 2 ^ (66 - n) = grind (arith, split) in
    (div-lt_iff_lt-mul {k = 2 ^ (66 - n)} {x = x} {y = 2 ^ (n - 2)} positive).1 small

-- the table's blocks have four buckets each
pub four_each : (n : ℕ) → 4 ≤ n → buckets n ≡ 4 * 2 ^ (n - 4)
four_each n le = let e : 2 + (n - 4) ≡ n - 2 = omega arith in ap (λ a. 2 ^ a) (sym e) ∙ pow-add 2 2 (n - 4)

pub head_before : (n i : ℕ) → 4 ≤ n → i < buckets n → head_of n i < block_of n (2 ^ (n - 4))
head_before n i le lt = omega (arith, four_each n le, lt)

pub head_within : (n i : ℕ) → 4 ≤ n → i < buckets n → head_of n i < 16 + 6 * 2 ^ n
head_within n i le lt = omega (arith, four_each n le, quarter_pow n le, lt)
