use Rattle.std.proofs.Common.{rules}
use Rattle.rom_device.proofs.Reading.{reads_then}
use Rattle.rom_device.proofs.device.Device.read_words.Goals as goal

pub loop-index-preserved : goal.loop-index-preserved
loop-index-preserved g c =
    record {
      len = search rules;
      read = search rules;
      only = reads_then g.Self.Device.shown c.args.self.now c.loop-index.self c.read.new.self c.loop-index.invariant.only c.read.ensures.only;
      reads_made = search rules;
      faults = search rules;
    }
