use Rattle.std.proofs.Common.{◌≡◌, ◌<◌, length}
use Rattle.rom_model.specs.VecSpace.{words_of_space}
use Rattle.rom_model.specs.Blocks.{region_len}
use Rattle.rom_heap.specs.Node.{head_of}
use Rattle.rom_heap.proofs.Linking.{LinkedTo}
use Rattle.rom_heap.proofs.renew.node.relink.Given as goal

abbrev pub invariant-loop-node : goal.invariant-loop-node
invariant-loop-node l = record {
  linked : LinkedTo (words_of_space l.fn.space) (head_of l.order l.bucket) l.nodes (words_of_space l.space) l.link l.node-index;
  within : l.link < region_len l.order;
  long : length (words_of_space l.space) ≡ length (words_of_space l.fn.space);
}
