use Rattle.std.proofs.Common.{◌≡◌, ◌-◌, ◌*◌, ◌≤◌, length, take}
use Rattle.std.specs.List.{flat_map}
use Rattle.rom_rebuild.specs.Elements.{elements_in}
use Rattle.rom_rebuild.specs.Lines.{behind_text, span}
use Rattle.rom_rebuild.proofs.group.behind_len.Given as goal

-- the bytes of the elements so far
abbrev pub invariant-loop-index : goal.invariant-loop-index
invariant-loop-index l = record {
  from : l.from ≤ l.index;
  total_is : l.total ≡ length (flat_map behind_text (take (l.index - l.from) (span l.from l.to (elements_in l.elements))));
  most : l.total ≤ 48 * (l.index - l.from);
}
