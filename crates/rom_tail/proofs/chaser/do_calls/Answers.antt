use Rattle.std.proofs.Common.{arith}
use Rattle.rom_tail.proofs.Batching.{failed_batch, failed_keeps, keeps, published_batch, unasked}
use Rattle.rom_tail.proofs.chaser.do_calls.Goals as goal

pub returns-then-turns-ge-LAST_COUNT-clause-does : goal.returns-then-turns-ge-LAST_COUNT-clause-does
returns-then-turns-ge-LAST_COUNT-clause-does g c count inv =
    unasked g.N.Label.base c.args.lone.now.many c.args.lone.now.turns count c.args.lone.now.core.view inv c.args.replies.now c.args.calls.now (omega (arith, c.turns.ensures, c.if-turns-ge-LAST_COUNT.true))

pub returns-in-Published-clause-keeps : goal.returns-in-Published-clause-keeps
returns-in-Published-clause-keeps g c count inv =
    let did = c.update_all-passed.ensures in
    keeps g.D.Device.shown g.N.Label.base c.args.lone.now.many c.args.lone.now.turns count c.args.lone.now.core c.update_all-passed.new.self.core c.args.calls.now c.update_all-passed.new.replies c.update_all-passed.result inv did.passed
    c.update_all-passed.result.done c.update_all-passed.new.self.many c.update_all-passed.new.self.turns did.passed.done did.base did.many did.turns

pub returns-in-Published-clause-does : goal.returns-in-Published-clause-does
returns-in-Published-clause-does g c count inv =
    let did = c.update_all-passed.ensures in
    published_batch g.D.Device.shown g.N.Label.base c.args.lone.now.many c.args.lone.now.turns count c.args.lone.now.core c.update_all-passed.new.self.core c.args.calls.now c.update_all-passed.new.replies c.update_all-passed.result inv did.passed
    c.in-Published.is

pub returns-in_default-clause-keeps : goal.returns-in_default-clause-keeps
returns-in_default-clause-keeps g c count inv =
    let did = c.update_all-passed.ensures in
    failed_keeps g.D.Device.shown g.N.Label.base c.args.lone.now.many c.args.lone.now.turns count c.args.lone.now.core c.update_all-passed.new.self.core c.args.calls.now c.update_all-passed.new.replies c.update_all-passed.result inv did.passed
    c.update_all-passed.new.self.many c.update_all-passed.new.self.turns c.in_default.not-Published did.base did.many did.turns

pub returns-in_default-clause-does : goal.returns-in_default-clause-does
returns-in_default-clause-does g c count inv =
    let did = c.update_all-passed.ensures in
    failed_batch g.D.Device.shown g.N.Label.base c.args.lone.now.many c.args.lone.now.turns count c.args.lone.now.core c.update_all-passed.new.self.core c.args.calls.now c.update_all-passed.new.replies c.update_all-passed.result inv did.passed
    c.in_default.not-Published
