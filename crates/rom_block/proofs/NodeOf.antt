-- Nodes of a tree by the orders of their blocks, and regions that hold a tree.
use Rattle.std.proofs.Common.{◌≡◌, ℕ, suc, ◌+◌, ◌-◌, ◌*◌, ◌/◌, ◌^◌, ◌<◌, List, length, arith, subst}
use Rattle.rom_model.specs.Blocks.{IsNode, IsOrder, region_len}
use Rattle.rom_block.specs.Walk.{HoldsTree, IsNodeOf}
use Rattle.rom_model.proofs.Nodes.{node_positive, node_fits, node_even, node_odd, node_half, children_fit, pow_small}

pub of_node : (n order depth x : ℕ) → depth + order ≡ n → IsNode depth x → IsNodeOf n order x
of_node n order depth x e is =
    let same : depth ≡ n - order = omega arith in
    record { within = omega arith; node = subst (λ d. IsNode d x) same is; positive = node_positive depth x is; fits = node_fits n depth order x e is }

pub at_depth : (n order depth x : ℕ) → depth + order ≡ n → IsNodeOf n order x → IsNode depth x
at_depth n order depth x e is = let same : n - order ≡ depth = omega arith in subst (λ d. IsNode d x) same is.node

pub root_of : (n : ℕ) → IsNodeOf n n 1
root_of n = of_node n n 0 1 (omega arith) (record { least = omega arith; most = omega arith })

pub left_of : (n order x : ℕ) → IsNodeOf n (suc order) x → IsNodeOf n order (2 * x)
left_of n order x is = let le = is.within in of_node n order (n - suc order + 1) (2 * x) (omega arith) (node_even (n - suc order) x is.node)

pub right_of : (n order x : ℕ) → IsNodeOf n (suc order) x → IsNodeOf n order (2 * x + 1)
right_of n order x is = let le = is.within in of_node n order (n - suc order + 1) (2 * x + 1) (omega arith) (node_odd (n - suc order) x is.node)

pub above_of : (n order x : ℕ) → order < n → IsNodeOf n order x → IsNodeOf n (order + 1) (x / 2)
above_of n order x lt is = of_node n (order + 1) (n - suc order) (x / 2) (omega arith) (node_half (n - suc order) x (at_depth n order (n - suc order + 1) x (omega arith) is))

pub halves_fit : (n order x : ℕ) → IsNodeOf n (suc order) x → 2 * x + 1 < 2 * 2 ^ n
halves_fit n order x is = let le = is.within in children_fit n (n - suc order) order x (omega arith) is.node

pub region_holds : (n : ℕ) (words : List ℕ) → IsOrder n → length words ≡ region_len n → HoldsTree n words
region_holds n words order sized = record { most = order.most; holds = omega arith; small = omega (arith, pow_small n order.most) }
