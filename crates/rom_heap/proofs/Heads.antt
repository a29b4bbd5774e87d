-- Where a bucket's word stands in the table, and where the table ends.
use Rattle.std.proofs.Common.{◌≡◌, ◌≢◌, ℕ, ◌+◌, ◌-◌, ◌*◌, ◌^◌, ◌<◌, ◌≤◌, sym, ◌∙◌, ap, arith}
use Rattle.std.proofs.lemmas.Nat.{pow-add}
use Rattle.rom_model.specs.Blocks.{block_of, region_len}
use Rattle.rom_model.specs.Region.{buckets}
use Rattle.rom_model.proofs.Members.{quarter_pow}
use Rattle.rom_heap.specs.Node.{head_of}

-- the table's blocks have four buckets each
pub four_each : (n : ℕ) → 4 ≤ n → buckets n ≡ 4 * 2 ^ (n - 4)
four_each n le = let e : 2 + (n - 4) ≡ n - 2 = omega arith in ap (λ a. 2 ^ a) (sym e) ∙ pow-add 2 2 (n - 4)

pub table_ends : (n : ℕ) → 4 ≤ n → head_of n (buckets n) ≡ block_of n (2 ^ (n - 4))
table_ends n le = omega (arith, four_each n le)

pub head_within : (n i : ℕ) → 4 ≤ n → i < buckets n → head_of n i < region_len n
head_within n i le lt = omega (arith, four_each n le, quarter_pow n le, lt)

-- no word of a block behind the table is one of the table's
pub head_apart : (n i b j : ℕ) → 4 ≤ n → i < buckets n → 2 ^ (n - 4) ≤ b → head_of n i ≢ block_of n b + j
head_apart n i b j le lt behind e = omega (arith, table_ends n le, lt, behind, e)
