use Rattle.rom_model.specs.Region.{Contents}
use Rattle.rom_store.specs.Callers.{IsNumberedCaller}
use Rattle.rom_bench.proofs.stores.update_all.Given as goal

abbrev pub invariant-loop-round : goal.invariant-loop-round
invariant-loop-round g l = IsNumberedCaller Contents g.N.Label.table g.N.Label.base 0 l.pass
