use Rattle.std.proofs.Common.{rules, ◌<◌, [], length, get_or, ap, ◌∙◌, sym, arith}
use Rattle.rom_combine.specs.Shipping.{BatchSeen}
use Rattle.rom_combine.proofs.Handed.{length_updates, args_at}
use Rattle.rom_combine.proofs.shipper.Batch.args.Goals as goal

pub bounds-found-at : goal.bounds-found-at
bounds-found-at c = omega (arith, c.requires, ap (λ (b : BatchSeen). length b.updates) c.self.view_is, length_updates c.self.inside.found.now c.self.inside.answers.now c.self.invariant.0, c.self.invariant.0)

pub offset_bounds-found-at : goal.offset_bounds-found-at
offset_bounds-found-at c = let few : c.args.at < 16 = omega (arith, c.requires, ap (λ (b : BatchSeen). length b.updates) c.self.view_is, length_updates c.self.inside.found.now c.self.inside.answers.now c.self.invariant.0, c.self.invariant.1) in search (rules, few)

pub returns-clause-words : goal.returns-clause-words
returns-clause-words c = let lt : c.args.at < length c.self.inside.found.now = omega (arith, c.requires, ap (λ (b : BatchSeen). length b.updates) c.self.view_is, length_updates c.self.inside.found.now c.self.inside.answers.now c.self.invariant.0) in
    c.as_slice.ensures.words ∙ (ap (λ z. z.args) (sym c.index-found-at.is) ∙ (args_at c.self.inside.found.now c.self.inside.answers.now c.args.at c.index-found-at.result c.self.invariant.0 lt c.index-found-at.is
    ∙ ap (λ (b : BatchSeen). (get_or b.updates c.args.at ([], [])).0) c.self.view_is))
