use Rattle.std.proofs.Common.{true, false, refl, sym, ◌∙◌}
use Rattle.rom_run.proofs.Ending.{status_by}
use Rattle.rom_run.proofs.results.status_of.Goals as goal

pub returns-then-found : goal.returns-then-found
returns-then-found g c = sym (status_by (λ v. v.items) c.args.results.now true _ (sym c.among_all-found.ensures.faulted ∙ c.if-found.true) refl)

pub returns-then-found-2 : goal.returns-then-found-2
returns-then-found-2 g c = sym (status_by (λ v. v.items) c.args.results.now false true (sym c.among_all-found.ensures.faulted ∙ c.if-found.false) (sym c.among_all-found.ensures.unread ∙ c.if-found-2.true))

pub returns-else-found-2 : goal.returns-else-found-2
returns-else-found-2 g c = sym (status_by (λ v. v.items) c.args.results.now false false (sym c.among_all-found.ensures.faulted ∙ c.if-found.false) (sym c.among_all-found.ensures.unread ∙ c.if-found-2.false))
