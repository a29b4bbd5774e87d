use Rattle.std.proofs.Common.{◌≡◌, ◌+◌, arith, sym, ap, ◌∙◌}
use Rattle.rom_ledger.proofs.Counting.{counted}
use Rattle.rom_ledger.proofs.ledger.apply_conditional.Goals as goal

pub update_conditional-requires-clause-region : goal.update_conditional-requires-clause-region
update_conditional-requires-clause-region g c =
    let r = c.requires.region in
    let image = g.M.Look.shown.image in
    let load = c.load-stamp.ensures in
    record {
      state = r.0;
      place = r.1;
      contents = counted c.args.order (image c.args.space.now) (image c.load-stamp.new.self) (image c.store.new.self) r.0 r.1 c.load-stamp.result r.2 r.3 load.word load.image c.store.ensures.image;
      stamp_is = ap (λ m. m + 1) (load.word ∙ r.2.1.shape.root.count_is);
    }

pub returns-clause-done : goal.returns-clause-done
returns-clause-done g c s k held =
    let r = c.requires.region in
    let image = g.M.Look.shown.image in
    let load = c.load-stamp.ensures in
    let same : k ≡ r.1 = sym held.1.shape.root.count_is ∙ r.2.1.shape.root.count_is in
    c.update_conditional.ensures.does.step_is s k
    (counted c.args.order (image c.args.space.now) (image c.load-stamp.new.self) (image c.store.new.self) s k c.load-stamp.result held (omega (arith, same, r.3)) load.word load.image c.store.ensures.image)
