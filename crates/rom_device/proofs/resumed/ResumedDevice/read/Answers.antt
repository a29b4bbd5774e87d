use Rattle.std.proofs.Common.{refl, rules}
use Rattle.rom_device.specs.Device.{Stays}
use Rattle.rom_device.specs.Doubt.{untold}
use Rattle.rom_device.specs.declared.call.LoggedCall.TheVariants.{Read}
use Rattle.rom_device.proofs.Older.{after_read, fewer_on, goes, runs_on}
use Rattle.rom_device.specs.Resumed.{older_of, log_of}
use Rattle.rom_device.specs.Memory.{start_of}
use Rattle.rom_device.proofs.resumed.ResumedDevice.read.Goals as goal

pub returns-clause-only : goal.returns-clause-only
returns-clause-only c =
    let old = c.args.self.now in
    let next = goes (Read c.args.at) old.memory c.read.new.self c.read.result c.read.ensures.lists in
    record {
      size = search rules;
      words = search rules;
      images = λ never. untold never;
      doubts = λ told. let runs = runs_on (older_of old) old.memory c.read.new.self c.read.ensures.lists.rest.start Stays (λ x. refl) (Read c.args.at) (after_read (older_of old) (start_of old.memory) (log_of old) c.args.at) next in record { later = runs.later; now = runs.now; nothing_else = runs.nothing_else; keeps = runs.keeps };
      fewer = fewer_on (older_of old) old.memory c.read.new.self c.read.ensures.lists.rest.start (Read c.args.at) next;
      still = λ never. untold never;
      writes = search rules;
      syncs = search rules;
    }
