-- A walk along a bucket's chain that collects its nodes.
use Rattle.std.proofs.Common.{◌≡◌, ◌≢◌, ℕ, ◌+◌, ◌<◌, ◌≤◌, List, [], ◌∷◌, ◌++◌, refl, sym, ◌∙◌, ap, subst, arith, append_assoc}
use Rattle.std.specs.Prelude.{slice_index}
use Rattle.std.proofs.lemmas.List.{map-append}
use Rattle.rom_model.specs.Blocks.{block_of, region_len}
use Rattle.rom_model.specs.Chains.{times, Chain}
use Rattle.rom_model.specs.Links.{link_after, first_of}
use Rattle.rom_model.proofs.Times.{times_here, times-append}
use Rattle.rom_model.proofs.Links.{chain_back, chain_first}
use Rattle.rom_heap.specs.Node.{head_of, nodes_of, IsOldBucket}
use Rattle.rom_heap.specs.declared.renew.node.Node.{Node}

-- The walk came to that node, which is 0 at the chain's end, and collected those before it.
pub record Collected (n : ℕ) (w blocks : List ℕ) (nodes : List Node) (at : ℕ) : Type 0 where
  pub front : List ℕ
  pub back : List ℕ
  pub are : blocks ≡ front ++ back
  pub nodes_are : nodes ≡ nodes_of n w front
  pub at_is : at ≡ first_of n back

module _ {n i : ℕ} {w blocks : List ℕ} (is : IsOldBucket n i w blocks) where
  abbrev node_of : ℕ → Node
  node_of b = record { key = slice_index w (block_of n b + 0); at = block_of n b }

  module _ {nodes : List Node} {at : ℕ} (x : Collected n w blocks nodes at) where
    module _ (some : at ≢ 0) where
      record First (back : List ℕ) : Type 0 where
        block : ℕ
        behind : List ℕ
        are : back ≡ block ∷ behind
        here : at ≡ block_of n block

      first : First x.back
      first = of x.back x.at_is
        where
          of : (back : List ℕ) → at ≡ first_of n back → First back
          of [] e = absurd (some e)
          of (b ∷ bs) e = record { block = b; behind = bs; are = refl; here = e }

      whole : blocks ≡ x.front ++ first.block ∷ first.behind
      whole = x.are ∙ ap (λ cs. x.front ++ cs) first.are

      among : 0 < times first.block blocks
      among = omega (arith, ap (times first.block) whole, times-append first.block x.front (first.block ∷ first.behind), times_here first.block first.behind)

      pub at_within : at + 4 ≤ region_len n
      at_within = omega (arith, first.here, is.blocks_are.are.within first.block among)

      -- one node further
      pub further : (next : ℕ) → next ≡ slice_index w (at + 2) → Collected n w blocks (nodes ++ record { key = slice_index w at; at = at } ∷ []) next
      further next load =
          let chain : Chain n w (link_after n (head_of n i) 2 x.front) 2 (first.block ∷ first.behind) = chain_back n (head_of n i) 2 w x.front (first.block ∷ first.behind) (subst (λ cs. Chain n w (head_of n i) 2 cs) whole is.chain) in
          let plain : at ≡ block_of n first.block + 0 = omega (arith, first.here) in
          record {
            front = x.front ++ first.block ∷ [];
            back = first.behind;
            are = whole ∙ sym (append_assoc x.front (first.block ∷ []) first.behind);
            nodes_are = (λ j. x.nodes_are j ++ record { key = slice_index w (plain j); at = first.here j } ∷ []) ∙ sym (map-append node_of x.front (first.block ∷ []));
            at_is = load ∙ ap (λ k. slice_index w (k + 2)) first.here ∙ chain_first n (block_of n first.block + 2) 2 w first.behind chain.1;
          }
