use Rattle.rom_heap.proofs.Steps.{well_formed}
use Rattle.rom_heap.proofs.apply.update.Goals as goal

pub enq-requires-clause-region : goal.enq-requires-clause-region
enq-requires-clause-region g c = well_formed c.requires.region

pub deq-requires-clause-region : goal.deq-requires-clause-region
deq-requires-clause-region g c = well_formed c.requires.region

pub add-requires-clause-region : goal.add-requires-clause-region
add-requires-clause-region g c = well_formed c.requires.region

pub rem-requires-clause-region : goal.rem-requires-clause-region
rem-requires-clause-region g c = well_formed c.requires.region

pub del-requires-clause-region : goal.del-requires-clause-region
del-requires-clause-region g c = well_formed c.requires.region
