use Rattle.std.proofs.Common.{subst}
use Rattle.rom_tail.specs.Chased.{Chased, HasDone}
use Rattle.rom_tail.proofs.chaser.Chaser.count.Goals as goal

pub returns-clause-done : goal.returns-clause-done
returns-clause-done g c s k held = subst (λ (x : Chased). HasDone g.N.Label.base.order s k x) c.self.view_is (c.self.invariant.done s k held)

pub returns-clause-within : goal.returns-clause-within
returns-clause-within g c = let formed = c.self.invariant.formed in (c.self.invariant.done formed.0 formed.1 formed.2).within
