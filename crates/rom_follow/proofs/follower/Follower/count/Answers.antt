use Rattle.std.proofs.Common.{subst}
use Rattle.rom_follow.specs.Followed.{HasDoneUpdates}
use Rattle.rom_follow.proofs.follower.Follower.count.Goals as goal

pub returns-clause-done : goal.returns-clause-done
returns-clause-done g c s k held = subst (λ f. HasDoneUpdates g.N.Label.base.order s k f) c.self.view_is (c.self.invariant.done s k held)
