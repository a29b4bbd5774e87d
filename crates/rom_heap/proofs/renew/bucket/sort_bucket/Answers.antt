use Rattle.std.proofs.Common.{rules, sym, subst}
use Rattle.std.proofs.lemmas.List.Sorted.{IsNonDecreasingBy-from_sort_by_key}
use Rattle.rom_heap.specs.Node.{BeginAtBlocks}
use Rattle.rom_heap.specs.declared.renew.node.Node.{Node}
use Rattle.rom_heap.proofs.Reordered.{moved_nodes, sorted_blocks, at_order, sorted_bucket}
use Rattle.rom_heap.proofs.renew.bucket.sort_bucket.Goals as goal

pub relink-requires-clause-nodes : goal.relink-requires-clause-nodes
relink-requires-clause-nodes c =
    let q = c.requires.bucket in
    let moved = moved_nodes q.1 c.words.ensures c.in_ok-collect.ensures c.sort_unstable_by_key.ensures.permutation in
    (sorted_blocks q.1 moved, subst (λ ns. BeginAtBlocks c.args.order ns (sorted_blocks q.1 moved)) (sym c.deref.ensures.value) (at_order q.1 moved))

pub returns-clause-sorted : goal.returns-clause-sorted
returns-clause-sorted c blocks is =
    let moved = moved_nodes is c.words.ensures c.in_ok-collect.ensures c.sort_unstable_by_key.ensures.permutation in
    let at : BeginAtBlocks c.args.order c.deref.result.now (sorted_blocks is moved) = subst (λ ns. BeginAtBlocks c.args.order ns (sorted_blocks is moved)) (sym c.deref.ensures.value) (at_order is moved) in
    sorted_bucket is moved c.requires.order.least
    (IsNonDecreasingBy-from_sort_by_key (λ (node : Node). node.key) _ c.sort_unstable_by_key.ensures.sorted (λ a r f k. search rules))
    (c.relink.ensures.linked (sorted_blocks is moved) at)
    (c.relink.ensures.others (sorted_blocks is moved) at)
