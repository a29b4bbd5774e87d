use Rattle.std.proofs.Common.{length, ap, ◌∙◌, sym}
use Rattle.rom_combine.specs.Shipping.{BatchSeen}
use Rattle.rom_combine.proofs.Handed.{length_updates}
use Rattle.rom_combine.proofs.shipper.Batch.len.Goals as goal

pub returns-clause-many : goal.returns-clause-many
returns-clause-many c = sym (length_updates c.self.inside.found.now c.self.inside.answers.now c.self.invariant.0) ∙ ap (λ (b : BatchSeen). length b.updates) c.self.view_is
