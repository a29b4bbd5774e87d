use Rattle.std.proofs.Common.{subst}
use Rattle.rom_follow.specs.Followed.{HasDoneUpdates}
use Rattle.rom_follow.proofs.follower.Follower.take_frame.Goals as goal

pub returns-then-frame-self-clause-done : goal.returns-then-frame-self-clause-done
returns-then-frame-self-clause-done g c s k held = let done = subst (λ f. HasDoneUpdates g.N.Label.base.order s k f) c.self.view_is (c.self.invariant.done s k held) in (done, done)

pub returns-then-frame-self-2-clause-done : goal.returns-then-frame-self-2-clause-done
returns-then-frame-self-2-clause-done g c s k held = let done = subst (λ f. HasDoneUpdates g.N.Label.base.order s k f) c.self.view_is (c.self.invariant.done s k held) in (done, done)
