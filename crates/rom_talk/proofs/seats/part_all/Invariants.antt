use Rattle.std.proofs.Common.{◌≡◌, ◌≤◌, ◌+◌, ◌++◌, map, length, reverse, vec_capacity}
use Rattle.rom_talk.proofs.seats.part_all.Given as goal

-- those that are parted, with those that are left, are all
abbrev pub invariant-loop : goal.invariant-loop
invariant-loop g l = record {
  talkers_many : length l.talkers.items + l.counter ≡ length l.fn.talkers.items;
  passes_many : length l.passes.items ≡ l.counter;
  peers_many : length l.peers.items ≡ l.counter;
  callers : l.passes.items ++ map (λ t. t.pass) (reverse l.talkers.items) ≡ map (λ t. t.pass) (reverse l.fn.talkers.items);
  met : l.peers.items ++ map (λ t. t.peer) (reverse l.talkers.items) ≡ map (λ t. t.peer) (reverse l.fn.talkers.items);
  passes_space : length l.fn.talkers.items ≤ vec_capacity l.passes;
  peers_space : length l.fn.talkers.items ≤ vec_capacity l.peers;
}
