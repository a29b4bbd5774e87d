use Rattle.rom_model.specs.Machine.{on_words}
use Rattle.std.proofs.Common.{rules, ap}
use Rattle.rom_rule.specs.Places.{slot_at}
use Rattle.rom_rule.specs.Views.{base_of}
use Rattle.rom_rule.proofs.Callers.{loads_turn}
use Rattle.rom_announce.proofs.taking.answered.Goals as goal

pub load-turn-requires : goal.load-turn-requires
load-turn-requires g c = let s = c.args.seat.now in (search rules, search rules, rw (c.slot-at.ensures.is, ap (λ l. slot_at l.callers s.number 0) c.args.shared.now.laid, s.own) (loads_turn g.O.Object.Contents (on_words g.O.Object.machine) (base_of c.args.shared.now.table.shared.key) g.met.O.Object.one_contents _ _ _ (s.numbered, c.requires.posted)))
