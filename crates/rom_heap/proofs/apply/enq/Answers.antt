use Rattle.std.proofs.Common.{◌+◌, arith, refl}
use Rattle.rom_queue.specs.Queue.{with_last}
use Rattle.rom_heap.proofs.Steps.{enq_room, enq_full, stays, changes}
use Rattle.rom_heap.proofs.apply.enq.Goals as goal

pub returns-then-queue_push : goal.returns-then-queue_push
returns-then-queue_push g c =
    let told = c.if-queue_push.ensures in
    record { does = changes (λ s. with_last s c.args.value) (λ s j held. enq_room c.args.order s j c.args.value (told.had_room s (j + 1) held)) told.contents (omega arith) c.queue_push.ensures.costs }

pub returns-else-queue_push : goal.returns-else-queue_push
returns-else-queue_push g c =
    let told = c.if-queue_push.ensures in
    record { does = stays (λ s j held. enq_full c.args.order s j c.args.value (told.had_room s (j + 1) held)) refl told.full }
