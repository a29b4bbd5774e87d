use Rattle.rom_ship.proofs.Batches.{stream_of}
use Rattle.rom_ship.proofs.stream.FrameStream.to.Goals as goal

pub returns-clause-frames : goal.returns-clause-frames
returns-clause-frames g c place history = stream_of place history
