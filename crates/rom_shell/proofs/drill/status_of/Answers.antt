use Rattle.std.proofs.Common.{true, false, sym, ◌∙◌}
use Rattle.rom_shell.proofs.Ending.{drill_status_by}
use Rattle.rom_shell.proofs.drill.status_of.Goals as goal

pub returns-then-any_faulted-clause-status : goal.returns-then-any_faulted-clause-status
returns-then-any_faulted-clause-status c = sym (drill_status_by (λ v. v.items) c.args.results.now true (sym c.any_faulted.ensures ∙ c.if-any_faulted.true))

pub returns-else-any_faulted-clause-status : goal.returns-else-any_faulted-clause-status
returns-else-any_faulted-clause-status c = sym (drill_status_by (λ v. v.items) c.args.results.now false (sym c.any_faulted.ensures ∙ c.if-any_faulted.false))
