use Rattle.std.proofs.Common.{ℕ, sym, subst}
use Rattle.rom_model.specs.State.{State}
use Rattle.rom_model.specs.Region.{Contents}
use Rattle.rom_units.proofs.heap.answer_and_loads.Goals as goal

pub answer-answer-requires-clause-region : goal.answer-answer-requires-clause-region
answer-answer-requires-clause-region g c =
    let r = c.requires.region in
    subst (λ w. (s : State) × (k : ℕ) × Contents 16 w s k) (sym c.begin-space.ensures.words) (r.0, r.1, r.2)
