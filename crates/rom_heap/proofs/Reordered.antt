-- A bucket's nodes that were sorted and linked.
use Rattle.std.proofs.Common.{◌≡◌, ℕ, ◌+◌, ◌≤◌, List, map, sym, ◌∙◌, ap, subst, arith}
use Rattle.std.specs.Prelude.{slice_index, IsPermutation}
use Rattle.std.specs.List.Sorted.{IsNonDecreasingBy}
use Rattle.std.proofs.lemmas.List.Sorted.{IsPermutation-map, length_permutation}
use Rattle.rom_model.specs.Blocks.{block_of}
use Rattle.rom_model.specs.Chains.{times, Chain, each_word}
use Rattle.rom_model.specs.Rising.{IsRising}
use Rattle.rom_model.proofs.Frames.{each_same}
use Rattle.rom_heap.specs.Node.{head_of, nodes_of, IsOldBucket, BeginAtBlocks, ChangesLinks}
use Rattle.rom_heap.specs.Renewed.{IsSortedBucket}
use Rattle.rom_heap.specs.declared.renew.node.Node.{Node}
use Rattle.rom_heap.proofs.Heads.{head_apart}
use Rattle.rom_heap.proofs.Permuted.{times_permuted}
use Rattle.rom_heap.proofs.Sorted.{Reordered, reordered, begins, rises}

-- the nodes that were collected from the same words, once they are sorted
pub moved_nodes : {n i : ℕ} {w blocks : List ℕ} → IsOldBucket n i w blocks → {seen : List ℕ} {nodes sorted : List Node} → seen ≡ w → ((bs : List ℕ) → IsOldBucket n i seen bs → nodes ≡ nodes_of n seen bs) → IsPermutation nodes sorted → IsPermutation (nodes_of n w blocks) sorted
moved_nodes {n} {i} {w} {blocks} is {seen} {nodes} {sorted} same collected moved =
    let there : IsOldBucket n i seen blocks = subst (λ v. IsOldBucket n i v blocks) (sym same) is in
    let are : nodes ≡ nodes_of n w blocks = collected blocks there ∙ ap (λ v. nodes_of n v blocks) same in
    subst (λ ns. IsPermutation ns sorted) are moved

module _ {n i : ℕ} {w blocks : List ℕ} (is : IsOldBucket n i w blocks) {nodes : List Node} (moved : IsPermutation (nodes_of n w blocks) nodes) where
  pub new_order : Reordered n w blocks nodes
  new_order = reordered n w blocks nodes moved

  abbrev pub sorted_blocks : List ℕ
  sorted_blocks = new_order.order

  times_order : (b : ℕ) → times b sorted_blocks ≡ times b blocks
  times_order b = times_permuted b blocks sorted_blocks new_order.same

  pub at_order : BeginAtBlocks n nodes sorted_blocks
  at_order = record {
    begin = ap (map (λ (node : Node). node.at)) new_order.nodes_are ∙ begins n w sorted_blocks;
    blocks_are = record {
      are = record {
        different = λ b. omega (arith, times_order b, is.blocks_are.are.different b);
        within = λ b some. is.blocks_are.are.within b (omega (arith, some, times_order b));
        few = omega (arith, length_permutation blocks sorted_blocks new_order.same, is.blocks_are.are.few);
      };
      behind = λ b some. is.blocks_are.behind b (omega (arith, some, times_order b));
    };
  }

  pub sorted_bucket : {new : List ℕ} → 4 ≤ n → IsNonDecreasingBy (λ (node : Node). node.key) nodes → Chain n new (head_of n i) 2 sorted_blocks → ChangesLinks n i sorted_blocks w new → IsSortedBucket n i blocks w new
  sorted_bucket {new} le up chain others = record {
    sorted = sorted_blocks;
    same = new_order.same;
    chain = chain;
    rising = subst IsRising (sym keys) (rises n w sorted_blocks (subst (IsNonDecreasingBy (λ (node : Node). node.key)) new_order.nodes_are up) once);
    others = record { as_long = others.as_long; others = λ k ne apart. others.others k ne (λ b some. apart b (omega (arith, some, times_order b))) };
  }
    where
      keys : each_word n new 0 sorted_blocks ≡ each_word n w 0 sorted_blocks
      keys = each_same n 0 w new sorted_blocks (λ c some. others.others (block_of n c + 0)
          (λ e. head_apart n i c 0 le is.number (is.blocks_are.behind c (omega (arith, some, times_order c))) (sym e))
          (λ b there e. absurd (omega (arith, e))))

      once : (key : ℕ) → times key (each_word n w 0 sorted_blocks) ≤ 1
      once key = omega (
        arith,
        is.keys_differ key,
        times_permuted key (each_word n w 0 blocks) (each_word n w 0 sorted_blocks) (IsPermutation-map (λ b. slice_index w (block_of n b + 0)) blocks sorted_blocks new_order.same),
      )
