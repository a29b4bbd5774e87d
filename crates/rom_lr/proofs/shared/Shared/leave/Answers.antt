use Rattle.rom_model.specs.Machine.{on_words}
use Rattle.std.proofs.Common.{rules, arith}
use Rattle.rom_rule.specs.Views.{base_of}
use Rattle.rom_rule.proofs.Readers.{departs}
use Rattle.rom_rule.proofs.Standing.{reading_stands}
use Rattle.rom_lr.proofs.Homes.{from_home}
use Rattle.rom_lr.proofs.shared.Shared.leave.Goals as goal

pub store-requires : goal.store-requires
store-requires g c = let s = c.args.seat.now in let known = s.known c.requires.entered in
    (search rules, search rules, rw (from_home s.number s.version s.home s.placed.0 known.1) (departs g.O.Object.Contents (on_words g.O.Object.machine) (base_of c.args.self.now.table.shared.key) _ _ _ _ (reading_stands _ _ c.requires.entered known.0, omega (arith, known.1, s.own, s.within, s.numbered), s.numbered)))
