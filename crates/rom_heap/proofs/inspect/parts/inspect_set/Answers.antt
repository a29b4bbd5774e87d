use Rattle.rom_heap.proofs.Ending.{set_ended}
use Rattle.rom_heap.proofs.inspect.parts.inspect_set.Goals as goal

pub returns : goal.returns
returns c seen are =
    let go = c.in_ok-reached.ensures seen are in
    set_ended c.args.order c.args.region.now seen go.blocks c.go.new.marks c.in_ok-reached.reached c.check_word.result go.walks go.known go.marked c.check_word.ensures
