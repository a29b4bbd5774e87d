use Rattle.std.proofs.Common.{subst}
use Rattle.rom_tail.specs.Chased.{Chased, HasDone}
use Rattle.rom_tail.proofs.chaser.Chaser.close.Goals as goal

pub returns-clause-done : goal.returns-clause-done
returns-clause-done g c s k held = subst (λ (x : Chased). HasDone g.N.Label.base.order s k x) c.self.view_is (c.self.invariant.done s k held)
