use Rattle.std.proofs.Common.{ℕ, List, ◌-◌, ◌^◌, vec_len}
use Rattle.rom_heap.specs.Node.{IsOldBucket}
use Rattle.rom_heap.proofs.Walking.{Collected}
use Rattle.rom_heap.proofs.renew.node.collect.Given as goal

abbrev pub invariant-loop-at : goal.invariant-loop-at
invariant-loop-at l = (blocks : List ℕ) → IsOldBucket l.order l.bucket l.words blocks → Collected l.order l.words blocks l.nodes.items l.at

-- no more nodes are collected than there are blocks
abbrev pub decreases-loop-at : goal.decreases-loop-at
decreases-loop-at l = 2 ^ l.order - vec_len l.nodes
