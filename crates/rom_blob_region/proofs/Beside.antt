-- The words of blocks that do not overlap.
use Rattle.std.proofs.Common.{◌≡◌, ◌≢◌, inl, inr, ℕ, suc, ◌+◌, ◌-◌, ◌*◌, ◌/◌, ◌^◌, ◌<◌, ◌≤◌, Bool, true, false, sym, ◌∙◌, ap, arith}
use Rattle.std.proofs.lemmas.Bool.{cases_lt}
use Rattle.std.proofs.Math.Nat.{mul-le-mul_right}
use Rattle.std.proofs.lemmas.Nat.{pow-add}
use Rattle.rom_model.specs.Blocks.{IsNode, IsDisjoint, up, block_of, block_at}
use Rattle.rom_model.proofs.Nodes.{up_up, units_least}
use Rattle.rom_model.proofs.Members.{quarter_pow}
use Rattle.rom_blob_region.proofs.Lowest.{up_is}

-- the word stands in the block of that node
pub record InBlock (n x k : ℕ) : Type 0 where
  pub depth : ℕ
  pub order : ℕ
  pub deep : depth + order ≡ n
  pub is_node : IsNode depth x
  pub low : block_at n order x ≤ k
  pub high : k < block_at n order x + 4 * 2 ^ order

-- the unit in which a word stands
unit : ℕ → ℕ → ℕ
unit n k = 2 ^ n + (k - block_of n 0) / 4

-- the block is above the unit
unit_up : (n x k : ℕ) (in_x : InBlock n x k) → up in_x.order (unit n k) ≡ x
unfolding unit
unit_up n x k b =
    let least = units_least n b.depth b.order x b.deep b.is_node in
    let p = 2 ^ b.order in
    let q = (k - block_of n 0) / 4 in
    let next : (x + 1) * p ≡ x * p + p = omega arith in
    up_is b.order (2 ^ n + q) x (omega (arith, least, b.low, b.high)) (omega (arith, least, b.low, b.high, next))

-- no word stands in two of the blocks
pub apart_words : (n : ℕ) (T : ℕ → Bool) → IsDisjoint n T → (x y k : ℕ) → T x ≡ true → T y ≡ true → x ≢ y → InBlock n x k → InBlock n y k → ⊥
apart_words n T disjoint x y k there also ne a b = elim (cases_lt a.order b.order) [
  | inl lt ↦ under x y a b there also lt
  | inr ge ↦ elim (cases_lt b.order a.order) [
    | inl gt ↦ under y x b a also there gt
    | inr le ↦ let same : a.order ≡ b.order = omega (arith, ge, le) in ne (sym (unit_up n x k a) ∙ ap (λ j. up j (unit n k)) same ∙ unit_up n y k b)
  ]
]
  where
    under : (x y : ℕ) (a : InBlock n x k) (b : InBlock n y k) → T x ≡ true → T y ≡ true → a.order < b.order → ⊥
    under x y a b there also lt =
        let more : suc (b.order - a.order - 1) + a.order ≡ b.order = omega (arith, lt) in
        let at : up (suc (b.order - a.order - 1)) x ≡ y = ap (λ z. up (suc (b.order - a.order - 1)) z) (sym (unit_up n x k a)) ∙ up_up (suc (b.order - a.order - 1)) a.order (unit n k) ∙ ap (λ j. up j (unit n k)) more ∙ unit_up n y k b in
        let none : T y ≡ false = ap T (sym at) ∙ disjoint.apart x (b.order - a.order - 1) there in
        absurd (let never : true ≡ false = sym also ∙ none in cc)

-- a word of a unit
pub in_unit : (n b k : ℕ) → b < 2 ^ n → block_of n b ≤ k → k < block_of n b + 4 → InBlock n (2 ^ n + b) k
in_unit n b k most lo hi = record {
  depth = n;
  order = 0;
  deep = omega arith;
  is_node = record { least = omega arith; most = omega (arith, most) };
  low = omega (arith, lo);
  high = omega (arith, hi);
}

-- a word of the bucket table
pub in_table : (n k : ℕ) → 4 ≤ n → block_of n 0 ≤ k → k < block_of n (2 ^ (n - 4)) → InBlock n 16 k
in_table n k le lo hi = record {
  depth = 4;
  order = n - 4;
  deep = omega (arith, le);
  is_node = record { least = omega arith; most = omega arith };
  low = omega (arith, lo, quarter_pow n le);
  high = omega (arith, hi, quarter_pow n le);
}

-- blocks stand behind the tree, and inside of the region
pub block_least : (n x k : ℕ) → InBlock n x k → block_of n 0 ≤ k
block_least n x k b = omega (arith, b.low)

pub block_most : (n x k : ℕ) → InBlock n x k → k < 16 + 6 * 2 ^ n
block_most n x k b =
    let least = units_least n b.depth b.order x b.deep b.is_node in
    let p : 2 ^ n ≡ 2 ^ b.depth * 2 ^ b.order = ap (λ a. 2 ^ a) (sym b.deep) ∙ pow-add 2 b.depth b.order in
    let step : x + 1 ≤ 2 * 2 ^ b.depth = omega (arith, b.is_node.most) in
    let all : (x + 1) * 2 ^ b.order ≤ 2 * 2 ^ b.depth * 2 ^ b.order = mul-le-mul_right (2 ^ b.order) step in
    omega (arith, b.high, least, p, all)
