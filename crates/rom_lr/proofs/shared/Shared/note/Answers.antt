use Rattle.rom_model.specs.Machine.{on_words}
use Rattle.std.proofs.Common.{rules}
use Rattle.rom_rule.specs.Views.{base_of}
use Rattle.rom_rule.proofs.Seats.{takes_note}
use Rattle.rom_lr.proofs.shared.Shared.note.Goals as goal

pub split_seat-token-requires : goal.split_seat-token-requires
split_seat-token-requires g c = (search rules, search rules, takes_note g.O.Object.Contents (on_words g.O.Object.machine) (base_of c.args.self.now.table.shared.key) _ _ c.requires.out)
