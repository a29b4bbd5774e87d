use Rattle.std.proofs.Common.{◌+◌, arith, drop}
use Rattle.rom_queue.specs.Queue.{with_queue}
use Rattle.rom_ledger.proofs.Doing.{deq_none, deq_other, deq_done, held_after, stays, changes}
use Rattle.rom_ledger.proofs.conditional.deq_if.Goals as goal

pub returns-in_default : goal.returns-in_default
returns-in_default g c = record { does = stays (λ s j held. deq_none s c.args.value s.queue (c.in_default.ensures.front s (j + 1) held)) c.queue_front.ensures.looks }

pub returns-then-first-value : goal.returns-then-first-value
returns-then-first-value g c = record { does = stays (λ s j held. deq_other s c.args.value s.queue c.in-Some.first (c.in-Some.ensures.front s (j + 1) held) c.if-first-value.true) c.queue_front.ensures.looks }

pub returns : goal.returns
returns g c =
    let looks = c.queue_front.ensures.looks in
    record {
      does = changes (λ s. with_queue s (drop 1 s.queue))
          (λ s j held. (deq_done s c.args.value s.queue c.in-Some.first (c.in-Some.ensures.front s (j + 1) held) c.if-first-value.false, c.queue_pop.ensures.contents s (j + 1) (held_after looks held)))
          looks (omega (arith, c.requires.order.most)) c.queue_pop.ensures.costs;
    }
