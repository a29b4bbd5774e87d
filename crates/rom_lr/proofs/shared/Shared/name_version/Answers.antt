use Rattle.rom_model.specs.Machine.{on_words}
use Rattle.std.proofs.Common.{rules}
use Rattle.rom_rule.specs.Views.{base_of}
use Rattle.rom_rule.proofs.Writes.{stores_version}
use Rattle.rom_lr.proofs.shared.Shared.name_version.Goals as goal

pub store-requires : goal.store-requires
store-requires g c = (search rules, search rules, rw c.version-word.ensures.is (stores_version g.O.Object.Contents (on_words g.O.Object.machine) (base_of c.args.self.now.table.shared.key) _ _ _ _ (c.args.seat.now.writes, c.requires.low)))
