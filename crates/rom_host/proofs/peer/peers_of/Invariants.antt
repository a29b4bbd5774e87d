use Rattle.std.proofs.Common.{◌≡◌, ◌≤◌, length, vec_capacity, All}
use Rattle.rom_host.specs.Peers.{IsUntried}
use Rattle.rom_host.proofs.peer.peers_of.Given as goal

-- a peer for each pair so far, and there is room for the others
abbrev pub invariant-loop-i : goal.invariant-loop-i
invariant-loop-i l = record {
  count : length l.peers.items ≡ l.i;
  untried : All IsUntried l.peers.items;
  space : l.many ≤ vec_capacity l.peers;
}
