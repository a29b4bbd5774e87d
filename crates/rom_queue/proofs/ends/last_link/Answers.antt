use Rattle.std.proofs.Common.{◌≡◌, slice_index, arith, sym}
use Rattle.rom_queue.proofs.Links.{tail_empty, tail_link}
use Rattle.rom_queue.proofs.ends.last_link.Goals as goal

pub returns-then-tail-eq0-clause-is : goal.returns-then-tail-eq0-clause-is
returns-then-tail-eq0-clause-is g c blocks values is = sym (tail_empty c.args.order (g.M.Look.shown.image c.args.space.now) blocks values is (omega arith))

pub returns-clause-is : goal.returns-clause-is
returns-clause-is g c blocks values is =
    let tail_is : c.load-tail.result ≡ slice_index (g.M.Look.shown.image c.args.space.now) 4 = c.load-tail.ensures.word in
    let at = tail_link c.args.order (g.M.Look.shown.image c.args.space.now) blocks values is (omega arith) in
    omega (arith, at, tail_is)
