use Rattle.rom_set.proofs.Places.{region_set, found_contains}
use Rattle.rom_set.proofs.set.set_has.Goals as goal

pub find-place-requires-clause-set : goal.find-place-requires-clause-set
find-place-requires-clause-set g c = region_set c.requires.region.contents.1

pub returns-clause-is : goal.returns-clause-is
returns-clause-is g c s k held = found_contains held.1.shape.set (c.find-place.ensures.is held.0.set s.members held.1.shape.set)

pub returns-clause-looks : goal.returns-clause-looks
returns-clause-looks g c s k held = c.find-place.ensures.looks held.0.set s.members held.1.shape.set
