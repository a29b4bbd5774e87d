use Rattle.std.proofs.Common.{◌≡◌, length, map, take}
use Rattle.rom_replica.specs.Merging.{all_updates, frames_left}
use Rattle.rom_replica.proofs.ship.updates.UpdatesReport.print.Given as goal

-- the callers so far have their updates
abbrev pub invariant-loop-i : goal.invariant-loop-i
invariant-loop-i g l = record {
  many : length l.callers ≡ 16;
  own : map (λ c. frames_left c.at c.script.now.items c.results.now.items) (take l.i l.callers) ≡ all_updates (map (λ v. v.items) (take l.i l.self.scripts.now)) (map (λ v. v.items) (take l.i l.self.results.now));
}
