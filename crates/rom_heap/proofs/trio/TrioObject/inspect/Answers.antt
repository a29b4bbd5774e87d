use Rattle.rom_heap.proofs.Inspected.{fit, says_old}
use Rattle.rom_heap.proofs.trio.TrioObject.inspect.Goals as goal

pub returns-clause-fit : goal.returns-clause-fit
returns-clause-fit c = fit c.args.order c.args.region.now c.inspect.result c.inspect.ensures.fit

pub returns-clause-refused : goal.returns-clause-refused
returns-clause-refused c = λ e first s k held. c.inspect.ensures.refused e first (record { state = s; count = k; contents = held })

pub returns-clause-old : goal.returns-clause-old
returns-clause-old c = λ says. c.inspect.ensures.old.1 (says_old c.args.region.now says)
