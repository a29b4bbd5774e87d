use Rattle.std.proofs.Common.{◌≡◌, ◌<◌, IfSome, drop, map}
use Rattle.rom_replica.specs.Merging.{frames_left, least, least_from}
use Rattle.rom_replica.proofs.ship.merge.least.Given as goal

-- the best so far, and then the callers from here on, give the least
abbrev pub invariant-loop-i : goal.invariant-loop-i
invariant-loop-i l = record {
  is : least_from l.i l.best (map (λ c. frames_left c.at c.script.now.items c.results.now.items) (drop l.i l.callers)) ≡ least (map (λ c. frames_left c.at c.script.now.items c.results.now.items) l.callers);
  within : IfSome l.best (λ best. best.0 < l.i);
}
