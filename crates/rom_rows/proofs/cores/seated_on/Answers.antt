use Rattle.std.proofs.Common.{ℕ, List, sym, subst}
use Rattle.rom_model.specs.Region.{Contents}
use Rattle.rom_rows.proofs.Taking.{popped, taken_last, left_many}
use Rattle.rom_rows.proofs.cores.seated_on.Goals as goal

pub returns-clause-third : goal.returns-clause-third
returns-clause-third g c = let shared = c.in_ok-core.shared in
    taken_last shared 3 c.in_ok-core.seats.items c.pop.new.self.items c.unwrap-third.result c.pop.result c.in_ok-core.ensures.seats c.in_ok-core.ensures.many c.pop.ensures.items c.unwrap-third.ensures

pub returns-clause-second : goal.returns-clause-second
returns-clause-second g c = let shared = c.in_ok-core.shared in
    let new = popped shared c.in_ok-core.seats.items c.pop.new.self.items c.unwrap-third.result c.pop.result c.in_ok-core.ensures.seats c.pop.ensures.items c.unwrap-third.ensures in
    let many = left_many shared 2 c.in_ok-core.seats.items c.pop.new.self.items c.unwrap-third.result c.pop.result c.in_ok-core.ensures.many c.pop.ensures.items c.unwrap-third.ensures in
    taken_last shared 2 c.pop.new.self.items c.pop-2.new.self.items c.unwrap-second.result c.pop-2.result new.0 many c.pop-2.ensures.items c.unwrap-second.ensures

pub returns-clause-first : goal.returns-clause-first
returns-clause-first g c = let shared = c.in_ok-core.shared in
    let new = popped shared c.in_ok-core.seats.items c.pop.new.self.items c.unwrap-third.result c.pop.result c.in_ok-core.ensures.seats c.pop.ensures.items c.unwrap-third.ensures in
    let many = left_many shared 2 c.in_ok-core.seats.items c.pop.new.self.items c.unwrap-third.result c.pop.result c.in_ok-core.ensures.many c.pop.ensures.items c.unwrap-third.ensures in
    let newer = popped shared c.pop.new.self.items c.pop-2.new.self.items c.unwrap-second.result c.pop-2.result new.0 c.pop-2.ensures.items c.unwrap-second.ensures in
    let fewer = left_many shared 1 c.pop.new.self.items c.pop-2.new.self.items c.unwrap-second.result c.pop-2.result many c.pop-2.ensures.items c.unwrap-second.ensures in
    taken_last shared 1 c.pop-2.new.self.items c.pop-3.new.self.items c.unwrap-first.result c.pop-3.result newer.0 fewer c.pop-3.ensures.items c.unwrap-first.ensures

pub table_on-requires-clause-formed : goal.table_on-requires-clause-formed
table_on-requires-clause-formed g c = let h = c.in-Ok.ensures.fit in (h.0, h.1, subst (λ (ws : List ℕ). Contents c.in-Ok.field-0.geometry ws h.0 h.1) (sym c.deref.ensures.value) h.2)
