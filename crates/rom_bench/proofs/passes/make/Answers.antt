use Rattle.std.proofs.Common.{ℕ, List, sym, subst}
use Rattle.rom_model.specs.Region.{Contents}
use Rattle.rom_model.specs.State.{empty}
use Rattle.rom_bench.proofs.passes.make.Goals as goal

pub new-requires-clause-formed : goal.new-requires-clause-formed
new-requires-clause-formed g c = (empty, 0, subst (λ (ws : List ℕ). Contents 4 ws empty 0) (sym c.words.ensures) c.in_ok-region.ensures.made)
