use Rattle.std.proofs.Common.{◌≡◌, ◌||◌, take}
use Rattle.std.specs.List.{list_any}
use Rattle.rom_run.specs.Statuses as statuses
use Rattle.rom_run.proofs.results.Found.among.Given as goal

-- what was found before, and what is among the results so far
abbrev pub invariant-loop-i : goal.invariant-loop-i
invariant-loop-i g l = record {
  unread : l.found.unread ≡ (l.fn.self.unread || list_any statuses.is_unread (take l.i l.results.items));
  faulted : l.found.faulted ≡ (l.fn.self.faulted || list_any statuses.is_faulted (take l.i l.results.items));
}
