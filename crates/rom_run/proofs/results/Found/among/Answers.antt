use Rattle.std.proofs.Common.{◌<◌, length, arith}
use Rattle.rom_run.specs.Statuses.{is_faulted, is_unread}
use Rattle.rom_run.proofs.Ending.{any_so_far}
use Rattle.rom_run.proofs.results.Found.among.Goals as goal

pub loop-i-preserved : goal.loop-i-preserved
loop-i-preserved g c =
    let items = c.args.results.now.items in
    let within : c.loop-i.i < length items = omega (arith, c.loop-i-test.true, c.len-i-end.ensures) in
    let was = c.loop-i.invariant in
    let found = c.with-found.ensures in
    record {
      unread = any_so_far is_unread c.args.self.unread c.loop-i.found.unread c.with-found.result.unread items c.loop-i.i within was.unread found.unread;
      faulted = any_so_far is_faulted c.args.self.faulted c.loop-i.found.faulted c.with-found.result.faulted items c.loop-i.i within was.faulted found.faulted;
    }
