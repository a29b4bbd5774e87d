use Rattle.rom_model.specs.Machine.{on_words}
use Rattle.std.proofs.Common.{rules}
use Rattle.rom_rule.specs.Views.{base_of}
use Rattle.rom_rule.proofs.Seats.{reviews}
use Rattle.rom_lr.proofs.shared.Shared.review.Goals as goal

pub load-requires : goal.load-requires
load-requires g c = (search rules, search rules, rw c.side.ensures.is (reviews g.O.Object.Contents (on_words g.O.Object.machine) (base_of c.args.self.now.table.shared.key) g.met.O.Object.one_contents _ _ _ c.args.writer.now.writes c.args.writer.now.out))
