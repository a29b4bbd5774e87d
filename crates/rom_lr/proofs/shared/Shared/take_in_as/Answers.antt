use Rattle.rom_model.specs.Machine.{on_words}
use Rattle.std.proofs.Common.{rules}
use Rattle.rom_rule.specs.Views.{base_of}
use Rattle.rom_rule.proofs.Seats.{joins_views}
use Rattle.rom_lr.proofs.shared.Shared.take_in_as.Goals as goal

pub join_seat-requires : goal.join_seat-requires
join_seat-requires g c = (search rules, search rules, c.args.seat.bare, search rules, joins_views g.O.Object.Contents (on_words g.O.Object.machine) (base_of c.args.self.now.table.shared.key) _ _ _ _ _ c.requires.picked (c.args.writer.now.out, (c.requires.out, c.requires.none_posted), c.args.seat.plain))
