use Rattle.std.proofs.Common.{◌≡◌, length, slice_index, slice_get, Some, arith, sym, ◌∙◌, ap}
use Rattle.rom_model.specs.Region.{Contents}
use Rattle.rom_queue.proofs.Heads.{no_values, head_of}
use Rattle.rom_queue.proofs.queue.queue_front.Goals as goal

pub returns-then-first-eq0-clause-front : goal.returns-then-first-eq0-clause-front
returns-then-first-eq0-clause-front g c s k held = ap (λ vs. slice_get vs 0) (sym (no_values held.1 (omega (arith, c.load-first.ensures.word))))

pub load-requires : goal.load-requires
load-requires g c =
    let r = c.requires.region in
    let held : Contents c.args.order (g.M.Look.shown.image c.args.space.now) r.state r.count = r.contents in
    let h = head_of c.requires.order.least held.1 c.load-first.result c.load-first.ensures.word (omega arith) in
    omega (arith, h.inside, ap length c.load-first.ensures.image)

pub returns-clause-front : goal.returns-clause-front
returns-clause-front g c s k held =
    let w = g.M.Look.shown.image c.args.space.now in
    let h = head_of c.requires.order.least held.1 c.load-first.result c.load-first.ensures.word (omega arith) in
    let value : c.load.result ≡ slice_index w c.load-first.result = c.load.ensures.word ∙ ap (λ v. slice_index v c.load-first.result) c.load-first.ensures.image in
    ap Some value ∙ ap (λ vs. slice_get vs 0) (sym h.values)
