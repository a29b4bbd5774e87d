use Rattle.std.proofs.Common.{◌≡◌, ◌++◌, ◌-◌, slice_index}
use Rattle.rom_text.specs.Phrases.{NumbersFit}
use Rattle.rom_rebuild.proofs.Walks.{AreInside, walked}
use Rattle.rom_rebuild.proofs.elements.chain.collect_chain.Given as goal

-- the walk that is left goes on where this one came to
abbrev pub invariant-loop : goal.invariant-loop
invariant-loop l = record {
  inside : AreInside l.words l.next (l.end - l.counter) l.node;
  rest : l.into.items ++ walked l.words l.next (l.end - l.counter) l.node ≡ l.fn.into.items ++ walked l.words l.next l.end (slice_index l.words l.link);
  fit : NumbersFit l.fn.into.items → NumbersFit l.into.items;
}
