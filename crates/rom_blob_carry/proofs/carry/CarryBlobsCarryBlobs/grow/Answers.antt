use Rattle.rom_model.specs.VecSpace.{words_of_space}
use Rattle.rom_blob_carry.proofs.Carrying.{fit_of, grown_of}
use Rattle.rom_blob_carry.proofs.carry.CarryBlobsCarryBlobs.grow.Goals as goal

pub returns-clause-grown : goal.returns-clause-grown
returns-clause-grown c = grown_of c.args.order (words_of_space c.args.space.now) c.args.greater c.requires.greater.0 c.requires.greater.1 c.grow_region.result c.grow_region.ensures.grown

pub returns-clause-fit : goal.returns-clause-fit
returns-clause-fit c = let r = c.requires.region in fit_of c.args.order (words_of_space c.args.space.now) c.args.greater c.requires.greater.0 c.requires.greater.1 r.0 r.1 r.2 c.grow_region.result c.grow_region.ensures.grown
