use Rattle.std.proofs.Common.{◌+◌, arith, refl, drop}
use Rattle.rom_queue.specs.Queue.{with_queue}
use Rattle.rom_heap.proofs.Steps.{deq_some, deq_none, stays, changes}
use Rattle.rom_heap.proofs.apply.deq.Goals as goal

pub returns-in-Some : goal.returns-in-Some
returns-in-Some g c =
    let told = c.in-Some.ensures in
    record { does = changes (λ s. with_queue s (drop 1 s.queue)) (λ s j held. deq_some s s.queue c.in-Some.value (told.first s (j + 1) held)) told.contents (omega arith) c.queue_pop.ensures.costs }

pub returns-in-None : goal.returns-in-None
returns-in-None g c =
    let told = c.in-None.ensures in
    record { does = stays (λ s j held. deq_none s s.queue (told.first s (j + 1) held)) refl told.empty }
