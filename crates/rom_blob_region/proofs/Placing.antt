-- Where blocks of small orders begin.
use Rattle.std.proofs.Common.{◌≡◌, ℕ, zero, suc, ◌+◌, ◌-◌, ◌*◌, ◌/◌, ◌%◌, ◌^◌, ◌<◌, ◌≤◌, sym, ◌∙◌, ap, arith}
use Rattle.std.proofs.lemmas.Nat.{pow-add}
use Rattle.rom_model.specs.Blocks.{IsNode, block_at}
use Rattle.rom_model.proofs.Nodes.{block_node, node_fits}
use Rattle.rom_block.specs.Walk.{IsNodeOf}
use Rattle.rom_block.proofs.NodeOf.{of_node}

-- offsets of blocks of that order, of which there are d in 4 * u words
abbrev pub Begins : ℕ → ℕ → ℕ → ℕ → ℕ → Type 0
Begins want d u offset x = (d ≤ x) × (x < 2 * d) × (offset ≡ 16 + 2 * u + 4 * (x * 2 ^ want - u))

begins : (want d u offset : ℕ) → want ≤ 3 → u ≡ d * 2 ^ want → 16 + 2 * u ≤ offset → offset - (16 + 2 * u) < 4 * u → (offset - (16 + 2 * u)) % (4 * 2 ^ want) ≡ 0
    → Begins want d u offset (d + (offset - (16 + 2 * u)) / (4 * 2 ^ want))
begins zero d u offset le units lo hi whole = (omega arith, omega (arith, units, lo, hi, whole), omega (arith, units, lo, hi, whole))
begins (suc zero) d u offset le units lo hi whole = (omega arith, omega (arith, units, lo, hi, whole), omega (arith, units, lo, hi, whole))
begins (suc (suc zero)) d u offset le units lo hi whole = (omega arith, omega (arith, units, lo, hi, whole), omega (arith, units, lo, hi, whole))
begins (suc (suc (suc zero))) d u offset le units lo hi whole = (omega arith, omega (arith, units, lo, hi, whole), omega (arith, units, lo, hi, whole))
begins (suc (suc (suc (suc want)))) d u offset le units lo hi whole = absurd (omega (arith, le))

-- what is known of an offset where one begins
abbrev pub MayBegin : ℕ → ℕ → ℕ → Type 0
MayBegin want u offset = (16 + 2 * u ≤ offset) × (offset - (16 + 2 * u) < 4 * u) × ((offset - (16 + 2 * u)) % (4 * 2 ^ want) ≡ 0)

begun : (want d u offset x : ℕ) → want ≤ 3 → u ≡ d * 2 ^ want → Begins want d u offset x → MayBegin want u offset
begun zero d u offset x le units is = (omega (arith, is.2), omega (arith, units, is.0, is.1, is.2), omega (arith, units, is.0, is.2))
begun (suc zero) d u offset x le units is = (omega (arith, is.2), omega (arith, units, is.0, is.1, is.2), omega (arith, units, is.0, is.2))
begun (suc (suc zero)) d u offset x le units is = (omega (arith, is.2), omega (arith, units, is.0, is.1, is.2), omega (arith, units, is.0, is.2))
begun (suc (suc (suc zero))) d u offset x le units is = (omega (arith, is.2), omega (arith, units, is.0, is.1, is.2), omega (arith, units, is.0, is.2))
begun (suc (suc (suc (suc want)))) d u offset x le units is = absurd (omega (arith, le))

module _ (n want offset : ℕ) (le : 4 ≤ n) (small : want ≤ 3) where
  all_units : 2 ^ n ≡ 2 ^ (n - want) * 2 ^ want
  all_units = let e : n - want + want ≡ n = omega (arith, le, small) in ap (λ a. 2 ^ a) (sym e) ∙ pow-add 2 (n - want) want

  -- one begins there
  pub may_begin : (x : ℕ) → IsNode (n - want) x → offset ≡ block_at n want x → MayBegin want (2 ^ n) offset
  may_begin x node at = begun want (2 ^ (n - want)) (2 ^ n) offset x small all_units (node.least, node.most, at)

  pub node_there : 16 + 2 * 2 ^ n ≤ offset → offset - (16 + 2 * 2 ^ n) < 4 * 2 ^ n → (offset - (16 + 2 * 2 ^ n)) % (4 * 2 ^ want) ≡ 0
      → let x = 2 ^ (n - want) + (offset - (16 + 2 * 2 ^ n)) / (4 * 2 ^ want) in IsNode (n - want) x × (offset ≡ block_at n want x)
  node_there lo hi whole =
      let is = begins want (2 ^ (n - want)) (2 ^ n) offset small all_units lo hi whole in
      (record { least = is.0; most = is.1 }, is.2)

  -- and no other
  pub one_node : (x y : ℕ) → IsNode (n - want) x → offset ≡ block_at n want x → IsNode (n - want) y → offset ≡ block_at n want y → x ≡ y
  one_node x y node here other there =
      let deep : n - want + want ≡ n = omega (arith, le, small) in
      sym (block_node n (n - want) want x offset deep node here) ∙ block_node n (n - want) want y offset deep other there

module _ (n want x : ℕ) (le : 4 ≤ n) (small : want ≤ 3) (node : IsNode (n - want) x) where
  pub node_inside : x < 2 * 2 ^ n
  node_inside = node_fits n (n - want) want x (omega (arith, le, small)) node

  pub node_of : IsNodeOf n want x
  node_of = of_node n want (n - want) x (omega (arith, le, small)) node
