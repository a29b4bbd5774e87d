use Rattle.std.proofs.Common.{◌≡◌, take, drop}
use Rattle.rom_lines.specs.Replies.{HasRoomFor}
use Rattle.rom_store.specs.Callers.{IsCallerOf}
use Rattle.rom_store.specs.Working.{HasDoneLines}
use Rattle.rom_store.proofs.work.take_lines.Given as goal

-- the lines so far are done, and there is room for those that are left
abbrev pub invariant-loop-i : goal.invariant-loop-i
invariant-loop-i g l = record {
  of : IsCallerOf g.O.Object.Contents g.N.Label.table g.N.Label.base l.pass;
  number : l.pass.view.number ≡ l.fn.pass.view.number;
  done : HasDoneLines g.O.Object.machine g.O.Object.Contents g.N.Label.base l.pass (take l.i l.script.items) l.results.items;
  room : HasRoomFor g.O.Object.machine.call_words (drop l.i l.script.items) l.results;
}
