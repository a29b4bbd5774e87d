use Rattle.rom_rows.proofs.Taking.{popped, taken_last, left_many}
use Rattle.rom_rows.proofs.readers.seated.Goals as goal

pub returns-clause-third : goal.returns-clause-third
returns-clause-third c = let shared = c.in_ok-shared.shared in
    taken_last shared 3 c.in_ok-shared.seats.items c.pop.new.self.items c.unwrap-third.result c.pop.result c.in_ok-shared.ensures.seats c.in_ok-shared.ensures.many c.pop.ensures.items c.unwrap-third.ensures

pub returns-clause-second : goal.returns-clause-second
returns-clause-second c = let shared = c.in_ok-shared.shared in
    let new = popped shared c.in_ok-shared.seats.items c.pop.new.self.items c.unwrap-third.result c.pop.result c.in_ok-shared.ensures.seats c.pop.ensures.items c.unwrap-third.ensures in
    let many = left_many shared 2 c.in_ok-shared.seats.items c.pop.new.self.items c.unwrap-third.result c.pop.result c.in_ok-shared.ensures.many c.pop.ensures.items c.unwrap-third.ensures in
    taken_last shared 2 c.pop.new.self.items c.pop-2.new.self.items c.unwrap-second.result c.pop-2.result new.0 many c.pop-2.ensures.items c.unwrap-second.ensures

pub returns-clause-first : goal.returns-clause-first
returns-clause-first c = let shared = c.in_ok-shared.shared in
    let new = popped shared c.in_ok-shared.seats.items c.pop.new.self.items c.unwrap-third.result c.pop.result c.in_ok-shared.ensures.seats c.pop.ensures.items c.unwrap-third.ensures in
    let many = left_many shared 2 c.in_ok-shared.seats.items c.pop.new.self.items c.unwrap-third.result c.pop.result c.in_ok-shared.ensures.many c.pop.ensures.items c.unwrap-third.ensures in
    let newer = popped shared c.pop.new.self.items c.pop-2.new.self.items c.unwrap-second.result c.pop-2.result new.0 c.pop-2.ensures.items c.unwrap-second.ensures in
    let fewer = left_many shared 1 c.pop.new.self.items c.pop-2.new.self.items c.unwrap-second.result c.pop-2.result many c.pop-2.ensures.items c.unwrap-second.ensures in
    taken_last shared 1 c.pop-2.new.self.items c.pop-3.new.self.items c.unwrap-first.result c.pop-3.result newer.0 fewer c.pop-3.ensures.items c.unwrap-first.ensures
