use Rattle.rom_model.specs.Machine.{on_words}
use Rattle.std.proofs.Common.{rules, arith, ap}
use Rattle.rom_rule.specs.Places.{slot_at}
use Rattle.rom_rule.specs.Views.{base_of}
use Rattle.rom_rule.proofs.Requests.{begins_pass, scans_next}
use Rattle.rom_announce.proofs.scanning.posted.Goals as goal

pub load-turn-requires : goal.load-turn-requires
load-turn-requires g c = let s = c.args.seat.now in let n = ap (λ l. l.callers) c.args.shared.now.laid in let within = c.requires.within in
    (search rules, search rules, rw (c.slot-at.ensures.is, ap (λ l. slot_at l.callers c.args.caller 0) c.args.shared.now.laid, c.if-caller-eq1.true) (begins_pass g.O.Object.Contents (on_words g.O.Object.machine) (base_of c.args.shared.now.table.shared.key) _ _ _ s.writes (omega (arith, n, within.0, within.1)) (c.requires.next.0 c.if-caller-eq1.true)))

pub load-turn-requires-else-caller-eq1 : goal.load-turn-requires-else-caller-eq1
load-turn-requires-else-caller-eq1 g c = let s = c.args.seat.now in let n = ap (λ l. l.callers) c.args.shared.now.laid in let within = c.requires.within in
    (search rules, search rules, rw (c.slot-at.ensures.is, ap (λ l. slot_at l.callers c.args.caller 0) c.args.shared.now.laid) (scans_next g.O.Object.Contents (on_words g.O.Object.machine) (base_of c.args.shared.now.table.shared.key) _ _ _ c.args.caller s.writes (c.requires.next.1 c.if-caller-eq1.false) (omega (arith, n, within.1))))
