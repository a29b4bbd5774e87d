use Rattle.std.proofs.Common.{◌≡◌, ◌+◌, ◌<◌, length, take, ap, ◌∙◌, arith, length-append, ◌∷◌, []}
use Rattle.rom_replica.specs.Turns.{applied, early, known}
use Rattle.rom_tail.specs.Batches.{many_next}
use Rattle.rom_tail.proofs.Counting.{applied_next, applied_other, early_above, early_not, known_below, known_not, one_more}
use Rattle.rom_tail.proofs.tally.Tally.add.Goals as goal
use Rattle.rom_tail.proofs.tally.Tally.add.Goals.{then-frame-next, else-frame-next+then-frame-next-2, else-frame-next+else-frame-next-2}

pub loop-frame-preserved : goal.loop-frame-preserved
loop-frame-preserved c =
    let so = c.loop-frame.invariant in
    let n = c.args.count in
    let f = c.frame-item.result in
    let fs = take c.loop-frame.frame-index c.args.frames.now in
    let all = one_more c.args.frames.now c.loop-frame.frame-index f c.frame-item.is c.loop-frame-test.true in
    elim c.if-frame-next.branch [
      | then-frame-next w ↦
          let lt : f.place < n + many_next n fs = omega (arith, w.if-frame-next.true, so.next) in
          let many = ap (λ x. length (applied n x)) all ∙ ap length (applied_other n fs f (λ is. absurd (omega (arith, lt, is)))) in
          let below = ap (known n) all ∙ known_below n fs f lt in
          let above = ap (early n) all ∙ early_not n fs f (omega (arith, lt)) in
          record {
            counts = record {
              applied_is = ap (λ t. t.applied) w.self-is ∙ omega (arith, so.counts.applied_is, many);
              known_is = ap (λ t. t.known) w.self-is ∙ omega (arith, w.saturating_add-self.ensures, so.counts.known_is, below);
              early_is = ap (λ t. t.early) w.self-is ∙ omega (arith, so.counts.early_is, above);
            };
            next = omega (arith, w.next-is, so.next, many);
            few = omega (arith, so.few, many);
          }
      | else-frame-next+then-frame-next-2 w ↦
          let gt : n + many_next n fs < f.place = omega (arith, w.if-frame-next-2.true, so.next) in
          let many = ap (λ x. length (applied n x)) all ∙ ap length (applied_other n fs f (λ is. absurd (omega (arith, gt, is)))) in
          let below = ap (known n) all ∙ known_not n fs f (omega (arith, gt)) in
          let above = ap (early n) all ∙ early_above n fs f gt in
          record {
            counts = record {
              applied_is = ap (λ t. t.applied) w.self-is ∙ omega (arith, so.counts.applied_is, many);
              known_is = ap (λ t. t.known) w.self-is ∙ omega (arith, so.counts.known_is, below);
              early_is = ap (λ t. t.early) w.self-is ∙ omega (arith, w.saturating_add-self-then-frame-next-2.ensures, so.counts.early_is, above);
            };
            next = omega (arith, w.next-is, so.next, many);
            few = omega (arith, so.few, many);
          }
      | else-frame-next+else-frame-next-2 w ↦
          let here : f.place ≡ n + many_next n fs = omega (arith, w.if-frame-next.false, w.if-frame-next-2.false, so.next) in
          let many = ap (λ x. length (applied n x)) all ∙ ap length (applied_next n fs f here) ∙ length-append (applied n fs) (f ∷ []) in
          let below = ap (known n) all ∙ known_not n fs f (omega (arith, here)) in
          let above = ap (early n) all ∙ early_not n fs f (omega (arith, here)) in
          record {
            counts = record {
              applied_is = ap (λ t. t.applied) w.self-is ∙ omega (arith, w.saturating_add-self-else-frame-next-2.ensures, so.counts.applied_is, many);
              known_is = ap (λ t. t.known) w.self-is ∙ omega (arith, so.counts.known_is, below);
              early_is = ap (λ t. t.early) w.self-is ∙ omega (arith, so.counts.early_is, above);
            };
            next = omega (arith, w.next-is, so.next, many);
            few = omega (arith, so.few, many);
          }
    ]
