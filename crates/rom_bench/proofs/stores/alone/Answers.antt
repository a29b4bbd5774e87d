use Rattle.std.proofs.Common.{◌≡◌, length, arith, subst}
use Rattle.rom_model.specs.Region.{Contents}
use Rattle.rom_store.specs.Callers.{IsNewCaller, IsNumberedCaller}
use Rattle.rom_store.specs.Indexed.{Indexed}
use Rattle.rom_store.proofs.Places.{last_at}
use Rattle.rom_bench.proofs.stores.alone.Goals as goal

pub returns-clause-of : goal.returns-clause-of
returns-clause-of g c =
    let new = last_at (IsNewCaller Contents g.N.Label.table g.N.Label.base) c.take_last.new.self.items c.take_last.result (subst (Indexed (IsNewCaller Contents g.N.Label.table g.N.Label.base)) c.take_last.ensures.items c.requires.new) in
    let none : length c.take_last.new.self.items ≡ 0 = omega (arith, c.take_last.ensures.len, c.requires.many) in
    subst (λ n. IsNumberedCaller Contents g.N.Label.table g.N.Label.base n c.take_last.result) none new.numbered
