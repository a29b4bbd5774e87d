-- The words of a key: those of its node and those of its bytes.
use Rattle.std.proofs.Common.{◌≡◌, ◌≢◌, ◌⊎◌, inl, inr, ℕ, ◌+◌, ◌-◌, ◌*◌, ◌^◌, ◌<◌, ◌≤◌, Bool, true, false, List, [], ◌∷◌, refl, sym, ◌∙◌, ap, subst, arith}
use Rattle.std.specs.Prelude.{slice_index, ◌==◌, nat_le, if◌then◌else◌, Some, None}
use Rattle.std.proofs.lemmas.Bool.{cases_lt}
use Rattle.std.proofs.lemmas.Bool.Decides.{nat_tests}
use Rattle.rom_model.specs.Blocks.{IsNode, block_of, block_at}
use Rattle.rom_model.specs.Chains.{times}
use Rattle.rom_model.proofs.Nodes.{block_node}
use Rattle.rom_model.proofs.Times.{times_here, times_more}
use Rattle.rom_blob_region.specs.Bytes.{bytes_at, EndsInZeros}
use Rattle.rom_blob_region.specs.State.{order_for, blocks_in, some_block}
use Rattle.rom_blob_region.specs.Region.{len_at, data_at, node_of, blob_at, IsBlob}
use Rattle.rom_blob_region.proofs.Carried.{bytes_same, ends_same}
use Rattle.rom_blob_region.proofs.Beside.{InBlock, in_unit}

-- a block of its order has room for so many bytes
pub order_small : (len : ℕ) → order_for len ≤ 3
order_small len = go (nat_le len 32) (nat_le len 64) (nat_le len 128)
  where
    go : (a b c : Bool) → (if a then 0 else if b then 1 else if c then 2 else 3) ≤ 3
    go true b c = omega arith
    go false true c = omega arith
    go false false true = omega arith
    go false false false = omega arith

pub room_for : (len : ℕ) → len ≤ 256 → len ≤ 32 * 2 ^ order_for len
room_for len few = elim (cases_lt 32 len) [
  | inr le ↦ let test : nat_le len 32 ≡ true = grind (arith, nat_tests) in let e : order_for len ≡ 0 = rw test refl in omega (arith, le, ap (λ a. 2 ^ a) e)
  | inl gt ↦
      let first : nat_le len 32 ≡ false = grind (arith, nat_tests) in
      elim (cases_lt 64 len) [
        | inr le ↦ let test : nat_le len 64 ≡ true = grind (arith, nat_tests) in let e : order_for len ≡ 1 = rw (first, test) refl in omega (arith, le, ap (λ a. 2 ^ a) e)
        | inl more ↦
            let second : nat_le len 64 ≡ false = grind (arith, nat_tests) in
            elim (cases_lt 128 len) [
              | inr le ↦ let test : nat_le len 128 ≡ true = grind (arith, nat_tests) in let e : order_for len ≡ 2 = rw (first, second, test) refl in omega (arith, le, ap (λ a. 2 ^ a) e)
              | inl most ↦ let third : nat_le len 128 ≡ false = grind (arith, nat_tests) in let e : order_for len ≡ 3 = rw (first, second, third) refl in omega (arith, few, ap (λ a. 2 ^ a) e)
            ]
      ]
]

-- the words of bytes in their block
pub in_body : (n len x at j : ℕ) → 4 ≤ n → len ≤ 256 → IsNode (n - order_for len) x → at ≡ block_at n (order_for len) x → 8 * j < len → InBlock n x (at + j)
in_body n len x at j le few node here lt = record {
  depth = n - order_for len;
  order = order_for len;
  deep = omega (arith, le, order_small len);
  is_node = node;
  low = omega (arith, here);
  high = omega (arith, here, lt, room_for len few);
}

-- what a key has
module _ (n : ℕ) (w : List ℕ) (b : ℕ) where
  pub no_body : len_at n w b ≡ 0 → (blob_at n w b).body ≡ None
  no_body none = let test : (len_at n w b == 0) ≡ true = grind (arith, nat_tests) in ap (λ t. if t then None else Some (node_of n (order_for (len_at n w b)) (data_at n w b))) test

  pub some_body : 4 ≤ n → (x : ℕ) → len_at n w b ≢ 0 → IsNode (n - order_for (len_at n w b)) x → data_at n w b ≡ block_at n (order_for (len_at n w b)) x → (blob_at n w b).body ≡ Some x
  some_body le x some node here =
      let test : (len_at n w b == 0) ≡ false = grind (arith, nat_tests) in
      let deep : n - order_for (len_at n w b) + order_for (len_at n w b) ≡ n = omega (arith, le, order_small (len_at n w b)) in
      ap (λ t. if t then None else Some (node_of n (order_for (len_at n w b)) (data_at n w b))) test
      ∙ ap Some (block_node n (n - order_for (len_at n w b)) (order_for (len_at n w b)) x (data_at n w b) deep node here)

  pub counts_none : len_at n w b ≡ 0 → (c : ℕ) → times c (blocks_in (blob_at n w b)) ≡ times c ((2 ^ n + b) ∷ [])
  counts_none none c = ap (λ o. times c ((2 ^ n + b) ∷ some_block o)) (no_body none)

  pub counts_some : 4 ≤ n → (x : ℕ) → len_at n w b ≢ 0 → IsNode (n - order_for (len_at n w b)) x → data_at n w b ≡ block_at n (order_for (len_at n w b)) x → (c : ℕ) → times c (blocks_in (blob_at n w b)) ≡ times c ((2 ^ n + b) ∷ x ∷ [])
  counts_some le x some node here c = ap (λ o. times c ((2 ^ n + b) ∷ some_block o)) (some_body le x some node here)

  pub has_node : 0 < times (2 ^ n + b) (blocks_in (blob_at n w b))
  has_node = omega (arith, times_here (2 ^ n + b) (some_block (blob_at n w b).body))

  -- each word that tells what the key has stands in one of its blocks
  pub own_word : 4 ≤ n → b < 2 ^ n → IsBlob n w b → (k : ℕ) → ((j : ℕ) × (j < 4) × (k ≡ block_of n b + j)) ⊎ ((j : ℕ) × (8 * j < len_at n w b) × (k ≡ data_at n w b + j)) → (z : ℕ) × (0 < times z (blocks_in (blob_at n w b))) × InBlock n z k
  own_word le most is k at = elim at [
    | inl word ↦ (2 ^ n + b, has_node, in_unit n b k most (omega (arith, word.2)) (omega (arith, word.1, word.2)))
    | inr byte ↦
        let some : len_at n w b ≢ 0 = λ e. absurd (omega (arith, e, byte.1)) in
        let x = is.block some in (
          x.0,
          omega (arith, counts_some le x.0 some x.1 x.2 x.0, times_here x.0 [], times_more x.0 (2 ^ n + b) (x.0 ∷ [])),
          subst (λ a. InBlock n x.0 a) (sym byte.2) (in_body n (len_at n w b) x.0 (data_at n w b) byte.0 le is.few x.1 x.2 byte.1),
        )
  ]

-- the key has the same where these words stay
pub record Same (n : ℕ) (w w' : List ℕ) (b : ℕ) : Type 0 where
  pub blob : blob_at n w' b ≡ blob_at n w b
  pub is : IsBlob n w' b

pub blob_same : (n : ℕ) (w w' : List ℕ) (b : ℕ) → IsBlob n w b → len_at n w' b ≡ len_at n w b → data_at n w' b ≡ data_at n w b → ((j : ℕ) → 8 * j < len_at n w b → slice_index w' (data_at n w b + j) ≡ slice_index w (data_at n w b + j)) → Same n w w' b
blob_same n w w' b is len there words =
    let first : bytes_at w' (data_at n w' b) (len_at n w' b) ≡ bytes_at w' (data_at n w b) (len_at n w b) = (λ i. bytes_at w' (there i) (len i)) in
    let bytes : bytes_at w' (data_at n w' b) (len_at n w' b) ≡ bytes_at w (data_at n w b) (len_at n w b) = first ∙ bytes_same w' w (data_at n w b) (data_at n w b) (len_at n w b) words in
    record {
      blob = λ i. record { bytes = bytes i; node = 2 ^ n + b; body = if len i == 0 then None else Some (node_of n (order_for (len i)) (there i)) };
      is = record {
        few = omega (arith, len, is.few);
        bare = λ none. there ∙ is.bare (sym len ∙ none);
        block = λ some.
            let x = is.block (λ e. some (len ∙ e)) in
            (x.0, subst (λ m. IsNode (n - order_for m) x.0) (sym len) x.1, there ∙ x.2 ∙ ap (λ m. block_at n (order_for m) x.0) (sym len));
        ends = λ some.
            let kept : EndsInZeros w' (data_at n w b) (len_at n w b) = ends_same w' w (data_at n w b) (data_at n w b) (len_at n w b) words (is.ends (λ e. some (len ∙ e))) in
            subst (λ m. EndsInZeros w' (data_at n w' b) m) (sym len) (subst (λ a. EndsInZeros w' a (len_at n w b)) (sym there) kept);
      };
    }
