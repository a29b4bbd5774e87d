use Rattle.std.proofs.Common.{◌+◌, arith}
use Rattle.rom_model.proofs.Looks.{stores_most}
use Rattle.rom_heap.proofs.Steps.{moved, well_formed, stamp_within, stamp_of}
use Rattle.rom_heap.proofs.apply.shift.Goals as goal

pub map_move-requires-clause-region : goal.map_move-requires-clause-region
map_move-requires-clause-region g c = well_formed c.requires.region

pub map_move-requires-clause-stamp : goal.map_move-requires-clause-stamp
map_move-requires-clause-stamp g c = stamp_within c.requires.region

pub returns-in-Done : goal.returns-in-Done
returns-in-Done g c =
    let told = c.in-Done.ensures in
    let region = well_formed c.requires.region in
    record { does = record { step_is = λ s j held. moved s j c.args.from c.args.to c.args.amount (stamp_of c.requires.region j held) (told.contents s (j + 1) held); stores = stores_most _ (omega arith) (told.costs region.state region.count region.contents) } }

pub returns-in-Absent : goal.returns-in-Absent
returns-in-Absent g c =
    let told = c.in-Absent.ensures in
    let region = well_formed c.requires.region in
    record { does = record { step_is = λ s j held. moved s j c.args.from c.args.to c.args.amount (stamp_of c.requires.region j held) (told.contents s (j + 1) held); stores = stores_most _ (omega arith) (told.kept region.state region.count region.contents).costs } }

pub returns-in-Short : goal.returns-in-Short
returns-in-Short g c =
    let told = c.in-Short.ensures in
    let region = well_formed c.requires.region in
    record { does = record { step_is = λ s j held. moved s j c.args.from c.args.to c.args.amount (stamp_of c.requires.region j held) (told.contents s (j + 1) held); stores = stores_most _ (omega arith) (told.kept region.state region.count region.contents).costs } }

pub returns-in-Over : goal.returns-in-Over
returns-in-Over g c =
    let told = c.in-Over.ensures in
    let region = well_formed c.requires.region in
    record { does = record { step_is = λ s j held. moved s j c.args.from c.args.to c.args.amount (stamp_of c.requires.region j held) (told.contents s (j + 1) held); stores = stores_most _ (omega arith) (told.kept region.state region.count region.contents).costs } }
