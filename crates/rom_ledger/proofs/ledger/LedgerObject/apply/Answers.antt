use Rattle.rom_ledger.proofs.Alone.{heap_done, conditional_done}
use Rattle.rom_ledger.proofs.ledger.LedgerObject.apply.Goals as goal

pub returns-in-Heap-clause-done : goal.returns-in-Heap-clause-done
returns-in-Heap-clause-done g c s k held = heap_done c.args.order s k (g.M.Look.shown.image c.apply.new.space) c.args.call.now c.in-Heap.own c.apply.result c.in-Heap.is (c.apply.ensures.done s k held)

pub returns-in-Conditional-clause-done : goal.returns-in-Conditional-clause-done
returns-in-Conditional-clause-done g c s k held =
    conditional_done c.args.order s k (g.M.Look.shown.image c.apply_conditional.new.space) c.args.call.now c.in-Conditional.own c.apply_conditional.result c.reply_to.result c.in-Conditional.is c.reply_to.ensures (c.apply_conditional.ensures.done s k held)
