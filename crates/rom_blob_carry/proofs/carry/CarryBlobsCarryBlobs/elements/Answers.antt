use Rattle.rom_model.specs.VecSpace.{words_of_space}
use Rattle.rom_blob_carry.proofs.Carrying.{carrying_of, written_of}
use Rattle.rom_blob_carry.proofs.carry.CarryBlobsCarryBlobs.elements.Goals as goal

pub returns-clause-carrying : goal.returns-clause-carrying
returns-clause-carrying c = carrying_of c.args.order (words_of_space c.args.space.now) c.of.result c.of.ensures.are c.of.ensures.fit

pub returns-clause-written : goal.returns-clause-written
returns-clause-written c = let r = c.requires.region in written_of c.args.order (words_of_space c.args.space.now) r.0 r.1 r.2 c.of.result c.of.ensures.are c.of.ensures.fit
