use Rattle.std.proofs.Common.{arith}
use Rattle.rom_script.specs.Drill as numbered
use Rattle.rom_script.proofs.Drills.{item_more}
use Rattle.rom_script.proofs.drill.drill_script.Goals as goal

pub loop-made-preserved : goal.loop-made-preserved
loop-made-preserved c = record {
  number = c.next-x.ensures.within;
  written = item_more c.args.callers c.args.caller c.args.calls c.loop-made._made c.loop-made.x c.next-x.result c.loop-made.script.items c.push_item.new.script.items
      (numbered.drill_script c.args.start c.args.callers c.args.calls c.args.caller) c.loop-made-test.true c.next-x.ensures.number c.loop-made.invariant.written c.in_ok-push_item.ensures.lines;
  few = omega (arith, c.in_ok-push_item.ensures.few, c.loop-made.invariant.few);
}
