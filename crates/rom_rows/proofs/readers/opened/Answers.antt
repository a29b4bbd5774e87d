use Rattle.std.proofs.Common.{ℕ, List, sym, subst}
use Rattle.rom_model.specs.Region.{Contents}
use Rattle.rom_model.specs.State.{empty}
use Rattle.rom_rows.proofs.readers.opened.Goals as goal

pub new-requires-clause-formed : goal.new-requires-clause-formed
new-requires-clause-formed c = (empty, 0, subst (λ (ws : List ℕ). Contents 4 ws empty 0) (sym c.words.ensures) c.requires.made)
