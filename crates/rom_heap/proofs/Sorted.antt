-- The nodes of a bucket in another order, and keys that rise.
use Rattle.std.proofs.Common.{◌≡◌, ◌≢◌, ℕ, suc, ◌+◌, ◌-◌, ◌*◌, ◌/◌, ◌<◌, ◌≤◌, List, [], ◌∷◌, map, refl, sym, ◌∙◌, ap, subst, arith}
use Rattle.std.specs.Prelude.{slice_index, IsPermutation}
use Rattle.std.specs.List.{All}
use Rattle.std.specs.List.Sorted.{IsNonDecreasingBy}
use Rattle.std.proofs.lemmas.List.Sorted.{IsPermutation-map, All-permutation}
use Rattle.std.proofs.lemmas.List.Elements.{All-cons}
use Rattle.rom_model.specs.Blocks.{block_of}
use Rattle.rom_model.specs.Chains.{times, each_word}
use Rattle.rom_model.specs.Rising.{IsRising}
use Rattle.rom_model.proofs.Times.{times_here, times_more}
use Rattle.rom_heap.specs.Node.{nodes_of}
use Rattle.rom_heap.specs.declared.renew.node.Node.{Node}

module _ (n : ℕ) (w : List ℕ) where
  abbrev node_of : ℕ → Node
  node_of b = record { key = slice_index w (block_of n b + 0); at = block_of n b }

  -- the block at which a node begins
  abbrev unit_of : Node → ℕ
  unit_of node = (node.at - block_of n 0) / 4

  unit_here : (b : ℕ) → unit_of (node_of b) ≡ b
  unit_here b = let e : block_of n b - block_of n 0 ≡ 4 * b = omega arith in ap (λ a. a / 4) e ∙ (let q : 4 * b / 4 ≡ b = omega arith in q)

  units : (bs : List ℕ) → map unit_of (nodes_of n w bs) ≡ bs
  units [] = refl
  units (b ∷ bs) = let here = unit_here b in let rest = units bs in λ i. here i ∷ rest i

  each_back : (bs : List ℕ) → All (λ x. node_of (unit_of x) ≡ x) (nodes_of n w bs)
  each_back [] = λ k d lt. absurd (omega (arith, lt))
  each_back (b ∷ bs) = All-cons (λ x. node_of (unit_of x) ≡ x) (node_of b) (nodes_of n w bs) (ap node_of (unit_here b)) (each_back bs)

  all_back : (xs : List Node) → All (λ x. node_of (unit_of x) ≡ x) xs → xs ≡ nodes_of n w (map unit_of xs)
  all_back [] all = refl
  all_back (x ∷ xs) all =
      let here = all 0 x (omega arith) in
      let rest = all_back xs (λ k d lt. all (suc k) d (omega (arith, lt))) in
      λ i. sym here i ∷ rest i

  -- nodes of these blocks in another order are those of the blocks in an order
  pub record Reordered (bs : List ℕ) (xs : List Node) : Type 0 where
    pub order : List ℕ
    pub same : IsPermutation bs order
    pub nodes_are : xs ≡ nodes_of n w order

  pub reordered : (bs : List ℕ) (xs : List Node) → IsPermutation (nodes_of n w bs) xs → Reordered bs xs
  reordered bs xs moved = record {
    order = map unit_of xs;
    same = subst (λ cs. IsPermutation cs (map unit_of xs)) (units bs) (IsPermutation-map unit_of (nodes_of n w bs) xs moved);
    nodes_are = all_back xs (All-permutation (λ x. node_of (unit_of x) ≡ x) (nodes_of n w bs) xs moved (each_back bs));
  }

  pub begins : (bs : List ℕ) → map (λ (node : Node). node.at) (nodes_of n w bs) ≡ map (block_of n) bs
  begins [] = refl
  begins (b ∷ bs) = ap (λ xs. block_of n b ∷ xs) (begins bs)

  -- keys that do not fall, and differ, rise
  pub rises : (bs : List ℕ) → IsNonDecreasingBy (λ (node : Node). node.key) (nodes_of n w bs) → ((key : ℕ) → times key (each_word n w 0 bs) ≤ 1) → IsRising (each_word n w 0 bs)
  rises [] up once = tt
  rises (b ∷ []) up once = tt
  rises (b ∷ c ∷ bs) up once = (
    below (slice_index w (block_of n b + 0)) (slice_index w (block_of n c + 0)) (each_word n w 0 bs) (up 0 1 (node_of b) (omega arith) (omega arith)) once,
    rises (c ∷ bs) (λ i j d le lt. up (suc i) (suc j) d (omega (arith, le)) (omega (arith, lt))) (λ key. omega (arith, once key, times_more key (slice_index w (block_of n b + 0)) (each_word n w 0 (c ∷ bs)))),
  )
    where
      below : (x y : ℕ) (ks : List ℕ) → x ≤ y → ((key : ℕ) → times key (x ∷ y ∷ ks) ≤ 1) → x < y
      below x y ks le once =
          let ne : x ≢ y = λ e. absurd (omega (arith, once x, times_here x (y ∷ ks), times_here x ks, ap (λ a. times x (a ∷ ks)) e)) in
          omega (arith, le, ne)
