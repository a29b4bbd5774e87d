use Rattle.rom_model.specs.Region.{Contents}
use Rattle.rom_store.specs.Callers.{IsNumberedCaller}
use Rattle.rom_bench.proofs.stores.read_all.Given as goal

abbrev pub invariant-loop : goal.invariant-loop
invariant-loop g l = IsNumberedCaller Contents g.N.Label.table g.N.Label.base 0 l.pass
