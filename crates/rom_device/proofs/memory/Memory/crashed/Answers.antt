use Rattle.std.proofs.Common.{◌≡◌, ◌<◌, length, reverse, arith, rules}
use Rattle.std.proofs.lemmas.List.{length-reverse}
use Rattle.rom_device.specs.Images.{length-MayLeave}
use Rattle.rom_device.proofs.Choices.{picked_may, may_picked}
use Rattle.rom_device.proofs.memory.Memory.crashed.Goals as goal

pub returns-clause-left : goal.returns-clause-left
returns-clause-left c =
    let long : length c.loop-at.words.items ≡ length c.args.self.start.items = search rules in
    picked_may c.args.self.start.items (reverse c.args.self.made.items) c.loop-at.words.items c.args.choice.now long
    (λ k lt. let below : k < c.loop-at.at = omega arith in c.loop-at.invariant.each k below)

pub returns-clause-every : goal.returns-clause-every
returns-clause-every c image may =
    let base = c.args.self.start.items in
    let log = reverse c.args.self.made.items in
    let choice = may_picked base log image may in
    let long : length image ≡ length base = length-MayLeave base log image may in
    let many : length log ≡ length c.args.self.made.items = length-reverse c.args.self.made.items in
    (choice.0, (λ k lt. omega (arith, many, (choice.1 k lt).0)), record { as_long = long; each = λ k lt. (choice.1 k lt).1 })
