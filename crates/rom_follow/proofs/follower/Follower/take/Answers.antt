use Rattle.std.proofs.Common.{◌+◌, refl, subst}
use Rattle.rom_follow.specs.Followed.{HasDoneUpdates}
use Rattle.rom_follow.specs.Following.{state_after_first}
use Rattle.rom_follow.proofs.Arriving.{arrives_as}
use Rattle.rom_follow.proofs.Keeping.{keeps}
use Rattle.rom_follow.proofs.follower.Follower.take.Goals as goal

pub returns-in-Some-clause-done : goal.returns-in-Some-clause-done
returns-in-Some-clause-done g c s k held = subst (λ f. HasDoneUpdates g.N.Label.base.order s k f) c.self.view_is (c.self.invariant.done s k held)

pub returns-in-None-clause-done : goal.returns-in-None-clause-done
returns-in-None-clause-done g c s k held = subst (λ f. HasDoneUpdates g.N.Label.base.order s k f) c.self.view_is (c.self.invariant.done s k held)

pub returns-in-Some-read_frame-clause-done : goal.returns-in-Some-read_frame-clause-done
returns-in-Some-read_frame-clause-done g c s k held = (c.take_frame.ensures.done s k held).1

pub returns-in-Some-read_frame-clause-follows : goal.returns-in-Some-read_frame-clause-follows
returns-in-Some-read_frame-clause-follows g c s0 n0 history first legal has follows arrives =
    let base = g.N.Label.base in
    let read = c.in-Some-read_frame.ensures in
    let f = c.in-Some-read_frame.frame in
    let entry = arrives_as base.order s0 n0 history c.args.message.now f legal has read.frame read.of_words (λ h small is. read.whole h small is) (λ h rest small is. read.torn h rest small is refl) arrives in
    let done = c.take_frame.ensures.done (state_after_first base.order s0 n0 history first) (n0 + first) follows.opening in
    keeps base s0 n0 history first legal f c.args.self.now c.take_frame.new.self follows done.0 done.1 entry.0 entry.1 entry.2 entry.3.place_is entry.3.args_are entry.3.reply_is c.take_frame.result c.take_frame.ensures.gives
