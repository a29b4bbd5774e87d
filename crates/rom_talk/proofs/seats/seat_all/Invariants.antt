use Rattle.std.proofs.Common.{◌≡◌, ◌≤◌, ◌+◌, ◌++◌, map, length, reverse, vec_capacity}
use Rattle.rom_store.specs.Indexed.{Indexed}
use Rattle.rom_talk.specs.Seated.{IsUnnoted}
use Rattle.rom_talk.proofs.seats.seat_all.Given as goal

-- those that are left, with those that are seated, are all
abbrev pub invariant-loop : goal.invariant-loop
invariant-loop g l = record {
  passes_many : length l.passes.items + l.counter ≡ length l.fn.peers.items;
  peers_many : length l.peers.items + l.counter ≡ length l.fn.peers.items;
  talkers_many : length l.talkers.items ≡ l.counter;
  callers : l.passes.items ++ map (λ t. t.pass) (reverse l.talkers.items) ≡ l.fn.passes.items;
  met : l.peers.items ++ map (λ t. t.peer) (reverse l.talkers.items) ≡ l.fn.peers.items;
  unnoted : Indexed (λ _ t. IsUnnoted t) l.talkers.items;
  space : length l.fn.peers.items ≤ vec_capacity l.talkers;
  passes_space : vec_capacity l.passes ≡ vec_capacity l.fn.passes;
  peers_space : vec_capacity l.peers ≡ vec_capacity l.fn.peers;
}
