use Rattle.rom_ledger.proofs.Alone.{heap_member, conditional_member}
use Rattle.rom_ledger.proofs.members.LedgerMembersMembersLedger248.update.Goals as goal

pub returns-in-Heap-clause-done : goal.returns-in-Heap-clause-done
returns-in-Heap-clause-done g c s j held = heap_member c.args.order s j (g.M.Look.shown.image c.update.new.space) c.args.member.now c.in-Heap.own c.update.result c.in-Heap.is (c.update.ensures.does.step_is s j held)

pub returns-in-Conditional-clause-done : goal.returns-in-Conditional-clause-done
returns-in-Conditional-clause-done g c s j held =
    conditional_member c.args.order s j (g.M.Look.shown.image c.update_conditional.new.space) c.args.member.now c.in-Conditional.own c.update_conditional.result c.in-Conditional.is (c.update_conditional.ensures.does.step_is s j held)
