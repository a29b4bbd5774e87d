use Rattle.std.proofs.Common.{arith}
use Rattle.rom_heap.proofs.Room.{sizes_fit}
use Rattle.rom_heap.proofs.free.free_elements.Goals as goal

pub overflow_sub-result : goal.overflow_sub-result
overflow_sub-result g c =
    let r = c.requires.region in
    omega (arith, (sizes_fit c.args.order r.state r.count c.requires.order.least c.queue_len-queue.ensures.looks.image c.set_len-set.ensures.looks.image r.contents c.queue_len-queue.ensures.len c.set_len-set.ensures.len c.map_len-map.ensures.len c.power_of_two.ensures.is).0)

pub overflow_sub-result-2 : goal.overflow_sub-result-2
overflow_sub-result-2 g c =
    let r = c.requires.region in
    omega (arith, (sizes_fit c.args.order r.state r.count c.requires.order.least c.queue_len-queue.ensures.looks.image c.set_len-set.ensures.looks.image r.contents c.queue_len-queue.ensures.len c.set_len-set.ensures.len c.map_len-map.ensures.len c.power_of_two.ensures.is).0)

pub overflow_sub-result-3 : goal.overflow_sub-result-3
overflow_sub-result-3 g c =
    let r = c.requires.region in
    omega (arith, (sizes_fit c.args.order r.state r.count c.requires.order.least c.queue_len-queue.ensures.looks.image c.set_len-set.ensures.looks.image r.contents c.queue_len-queue.ensures.len c.set_len-set.ensures.len c.map_len-map.ensures.len c.power_of_two.ensures.is).0)

pub returns-clause-free : goal.returns-clause-free
returns-clause-free g c s k held = (sizes_fit c.args.order s k c.requires.order.least c.queue_len-queue.ensures.looks.image c.set_len-set.ensures.looks.image held c.queue_len-queue.ensures.len c.set_len-set.ensures.len c.map_len-map.ensures.len c.power_of_two.ensures.is).1
