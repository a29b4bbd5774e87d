use Rattle.std.proofs.Common.{◌≡◌, ◌≤◌, length, vec_capacity}
use Rattle.std.specs.Prelude.{All, map}
use Rattle.rom_name.specs.Peeked.{IsUnread, source_of}
use Rattle.rom_name.proofs.inputs.peek_all.Given as goal

abbrev pub invariant-loop-source : goal.invariant-loop-source
invariant-loop-source g l = record {
  many : length l.peeked.items ≡ length l.yielded;
  same : map source_of l.peeked.items ≡ l.yielded;
  unread : All IsUnread l.peeked.items;
  space : length l.fn.sources.items ≤ vec_capacity l.peeked;
}
