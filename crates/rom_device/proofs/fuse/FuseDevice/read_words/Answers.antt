use Rattle.std.proofs.Common.{◌≡◌, ◌<◌, false, is_err, rules}
use Rattle.rom_device.specs.Fuse.{calls_left}
use Rattle.rom_device.proofs.Passing.{was_passed}
use Rattle.rom_device.proofs.fuse.FuseDevice.read_words.Goals as goal

pub loop-index-preserved : goal.loop-index-preserved
loop-index-preserved g c =
    let well : is_err c.read.result ≡ false = search rules in
    let some : 0 < calls_left c.loop-index.self = was_passed g.D.Device.shown 1 0 0 c.loop-index.self c.read.new.self c.read.result c.read.ensures.passes well in
    let passed = c.read.ensures.passes.passed some in
    record {
      len = search rules;
      read = search rules;
      only = search rules;
      reads_made = search rules;
      left = search rules;
      own = search rules;
      faults = search rules;
      inner_reads = search rules;
      inner_writes = search rules;
      inner_syncs = search rules;
    }
