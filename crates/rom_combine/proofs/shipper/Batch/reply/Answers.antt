use Rattle.std.proofs.Common.{rules, ◌<◌, [], length, get_or, ap, ◌∙◌, sym, arith}
use Rattle.rom_combine.specs.Shipping.{BatchSeen}
use Rattle.rom_combine.proofs.Handed.{length_updates, reply_at}
use Rattle.rom_combine.proofs.shipper.Batch.reply.Goals as goal

pub bounds-answers-at : goal.bounds-answers-at
bounds-answers-at c = omega (arith, c.requires, ap (λ (b : BatchSeen). length b.updates) c.self.view_is, length_updates c.self.inside.found.now c.self.inside.answers.now c.self.invariant.0, c.self.invariant.0)

pub offset_bounds-answers-at : goal.offset_bounds-answers-at
offset_bounds-answers-at c = let few : c.args.at < 16 = omega (arith, c.requires, ap (λ (b : BatchSeen). length b.updates) c.self.view_is, length_updates c.self.inside.found.now c.self.inside.answers.now c.self.invariant.0, c.self.invariant.1) in search (rules, few)

pub returns-clause-words : goal.returns-clause-words
returns-clause-words c = let lt : c.args.at < length c.self.inside.found.now = omega (arith, c.requires, ap (λ (b : BatchSeen). length b.updates) c.self.view_is, length_updates c.self.inside.found.now c.self.inside.answers.now c.self.invariant.0) in
    c.as_slice.ensures.words ∙ (ap (λ z. z.reply) (sym c.index-answers-at.is) ∙ (reply_at c.self.inside.found.now c.self.inside.answers.now c.args.at c.index-answers-at.result c.self.invariant.0 lt c.index-answers-at.is
    ∙ ap (λ (b : BatchSeen). (get_or b.updates c.args.at ([], [])).1) c.self.view_is))
