use Rattle.rom_heap.proofs.Ending.{map_ended}
use Rattle.rom_heap.proofs.inspect.parts.inspect_map.Goals as goal

pub returns : goal.returns
returns c seen are =
    let all = c.in_ok-count.ensures seen are in
    map_ended c.args.order c.args.region.now seen all.0 c.inspect_buckets.new.marks c.args.version c.in_ok-count.count c.check_word.result all.1 all.2 all.3 c.check_word.ensures
