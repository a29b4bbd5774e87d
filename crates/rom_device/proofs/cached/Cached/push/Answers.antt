use Rattle.std.proofs.Common.{ℕ, List, refl, sym, arith, rules, set}
use Rattle.rom_device.specs.Run.{with_run}
use Rattle.rom_device.proofs.Knowing.{knows_missed}
use Rattle.rom_device.proofs.Caching.{cached_puts, knows_by, Longer, longer_words}
use Rattle.rom_device.proofs.cached.Cached.push.Goals as goal

pub invariant_of-self-clause-told : goal.invariant_of-self-clause-told
invariant_of-self-clause-told g c told =
    let old = c.args.self.now in
    let x : List ℕ = g.M.Medium.shown.words old.medium in
    let longer : Longer c.args.at c.args.value old.pending c.push.new.self = record { count = c.push.ensures.count; place = search rules; first = λ some. c.push.ensures.first; word = c.push.ensures.word; others = c.push.ensures.others } in
    let missed = (old.alone c.requires.apart).2 c.args.at (omega (arith, c.requires.place)) (omega (arith, c.requires.place, c.requires.room)) in
    knows_by old.windows (set (with_run old.pending x) c.args.at c.args.value) (with_run c.push.new.self x) (sym (longer_words c.args.at c.args.value old.pending c.push.new.self x longer))
    (knows_missed old.windows (with_run old.pending x) c.args.at c.args.value missed.0 missed.1 (old.told told))

pub returns-clause-written : goal.returns-clause-written
returns-clause-written g c told =
    let old = c.args.self.now in
    longer_words c.args.at c.args.value old.pending c.push.new.self (g.M.Medium.shown.words old.medium)
    record { count = c.push.ensures.count; place = search rules; first = λ some. c.push.ensures.first; word = c.push.ensures.word; others = c.push.ensures.others }

pub returns-clause-does : goal.returns-clause-does
returns-clause-does g c =
    let old = c.args.self.now in
    cached_puts g.M.Medium.shown c.args.at c.args.value old _ refl refl
    record { count = c.push.ensures.count; place = search rules; first = λ some. c.push.ensures.first; word = c.push.ensures.word; others = c.push.ensures.others }
    (λ i told left. omega (arith, c.requires.inside, old.long (g.met.M.Medium.tells_both told), g.met.M.Medium.images_fit old.medium i told left))
