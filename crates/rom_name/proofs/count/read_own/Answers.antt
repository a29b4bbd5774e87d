use Rattle.std.proofs.Common.{sym, ◌∙◌}
use Rattle.std.proofs.lemmas.Option.{same_Some}
use Rattle.rom_name.proofs.count.read_own.Goals as goal

pub returns-clause-holds : goal.returns-clause-holds
returns-clause-holds g c told order s k holds = same_Some _ _ (sym c.in-Some.is ∙ c.in_ok-count.ensures.holds told order s k holds)
