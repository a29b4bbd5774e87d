use Rattle.rom_combine.specs.AtRest.{IsCoreOf}
use Rattle.rom_rows.proofs.crowd.pass_until.Given as goal

abbrev pub invariant-loop : goal.invariant-loop
invariant-loop g l = IsCoreOf l.shared l.core
