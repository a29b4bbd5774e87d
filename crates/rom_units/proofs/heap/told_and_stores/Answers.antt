use Rattle.std.proofs.Common.{ℕ, ◌<◌, sym, subst}
use Rattle.rom_model.specs.History.{LAST_COUNT}
use Rattle.rom_model.specs.State.{State}
use Rattle.rom_model.specs.Region.{Contents}
use Rattle.rom_units.proofs.heap.told_and_stores.Goals as goal

pub apply-reply-requires-clause-region : goal.apply-reply-requires-clause-region
apply-reply-requires-clause-region g c = subst (λ w. (s : State) × (k : ℕ) × Contents 16 w s k × (k < LAST_COUNT)) (sym c.begin-space.ensures.words) c.requires.region
