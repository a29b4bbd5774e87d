use Rattle.std.proofs.Common.{◌≡◌, [], ◌∷◌, ◌++◌, length, arith, subst}
use Rattle.rom_model.specs.Region.{Contents}
use Rattle.rom_store.specs.Callers.{IsNewCaller, IsNumberedCaller}
use Rattle.rom_store.specs.Indexed.{Indexed}
use Rattle.rom_store.proofs.Places.{last_at, pop_at}
use Rattle.rom_rows.proofs.stores.parted.Goals as goal

pub returns-clause-second : goal.returns-clause-second
returns-clause-second g c =
    let P = IsNewCaller Contents g.N.Label.table g.N.Label.base in
    let all : Indexed P (c.take_last-second.new.self.items ++ c.take_last-second.result ∷ []) = subst (Indexed P) c.take_last-second.ensures.items c.requires.new in
    let one : length c.take_last-second.new.self.items ≡ 1 = omega (arith, c.take_last-second.ensures.len, c.requires.many) in
    subst (λ n. IsNumberedCaller Contents g.N.Label.table g.N.Label.base n c.take_last-second.result) one (last_at P c.take_last-second.new.self.items c.take_last-second.result all).numbered

pub returns-clause-first : goal.returns-clause-first
returns-clause-first g c =
    let P = IsNewCaller Contents g.N.Label.table g.N.Label.base in
    let all : Indexed P (c.take_last-second.new.self.items ++ c.take_last-second.result ∷ []) = subst (Indexed P) c.take_last-second.ensures.items c.requires.new in
    let rest : Indexed P (c.take_last-first.new.self.items ++ c.take_last-first.result ∷ []) = subst (Indexed P) c.take_last-first.ensures.items (pop_at P c.take_last-second.new.self.items c.take_last-second.result all) in
    let one : length c.take_last-second.new.self.items ≡ 1 = omega (arith, c.take_last-second.ensures.len, c.requires.many) in
    let none : length c.take_last-first.new.self.items ≡ 0 = omega (arith, c.take_last-first.ensures.len, one) in
    subst (λ n. IsNumberedCaller Contents g.N.Label.table g.N.Label.base n c.take_last-first.result) none (last_at P c.take_last-first.new.self.items c.take_last-first.result rest).numbered
