use Rattle.std.proofs.Common.{◌≡◌, ◌≤◌, map, length, vec_len, vec_capacity}
use Rattle.rom_store.specs.Indexed.{Indexed}
use Rattle.rom_store.specs.Working.{HasReservedRoom}
use Rattle.rom_store.proofs.rooms.reserve.Given as goal

abbrev pub invariant-loop-script : goal.invariant-loop-script
invariant-loop-script g l = record {
  many : vec_len l.rooms ≡ l.script-index;
  rooms : Indexed (HasReservedRoom g.O.Object.machine.call_words (map (λ v. v.items) l.scripts)) l.rooms.items;
  space : length l.scripts ≤ vec_capacity l.rooms;
}
