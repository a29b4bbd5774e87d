use Rattle.std.proofs.Common.{◌-◌, map}
use Rattle.rom_replica.specs.Merging.{frames_left}
use Rattle.rom_replica.proofs.Writing.{IsUnderWay}
use Rattle.rom_replica.proofs.ship.updates.print_merged.Given as goal

-- some are written, and the others come in the turns from here on
abbrev pub invariant-loop-turn : goal.invariant-loop-turn
invariant-loop-turn g l = IsUnderWay g.K.Sink.shown l.fn.out l.count (map (λ c. frames_left c.at c.script.now.items c.results.now.items) l.fn.callers) l.out (l.count - l._turn) (map (λ c. frames_left c.at c.script.now.items c.results.now.items) l.callers)
