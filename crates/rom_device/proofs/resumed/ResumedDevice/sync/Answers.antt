use Rattle.std.proofs.Common.{◌≡◌, refl, rules, Bool, true, false, is_err, is_none, Result, Ok, Err, OnOk}
use Rattle.rom_device.specs.Device.{Stays}
use Rattle.rom_device.specs.Doubt.{untold}
use Rattle.rom_device.specs.declared.call.LoggedCall.TheVariants.{Sync}
use Rattle.rom_device.proofs.Older.{after_sync, done_well, fewer_on, goes, runs_on, settled_by, went_well}
use Rattle.rom_device.specs.Resumed.{older_of, log_of}
use Rattle.rom_device.specs.Memory.{start_of, calls_of, room_of, trips_of, trip_of}
use Rattle.rom_device.proofs.resumed.ResumedDevice.sync.Goals as goal

pub returns-clause-does : goal.returns-clause-does
returns-clause-does c =
    let old = c.args.self.now in
    let next = goes (Sync true) old.memory c.sync.new.self c.sync.result c.sync.ensures.lists in
    let done : Bool = is_none (trip_of (room_of old.memory) (trips_of old.memory) (calls_of old.memory) (Sync true)) in
    record {
      size = search rules;
      words = c.sync.ensures.does.words;
      images = λ never. untold never;
      doubts = λ told. let runs = runs_on (older_of old) old.memory c.sync.new.self c.sync.ensures.lists.rest.start Stays (λ x. refl) (Sync done) (after_sync (older_of old) (start_of old.memory) (log_of old) done) next in record { later = runs.later; now = runs.now; nothing_else = runs.nothing_else; keeps = runs.keeps };
      fewer = fewer_on (older_of old) old.memory c.sync.new.self c.sync.ensures.lists.rest.start (Sync done) next;
    }

on_ok : {T E P : Type 0} (result : Result T E) → (is_err result ≡ false → P) → OnOk result P
on_ok (Ok done) holds = holds refl
on_ok (Err failed) holds = tt

pub returns-clause-settles : goal.returns-clause-settles
returns-clause-settles c told =
    let old = c.args.self.now in
    let trip = trip_of (room_of old.memory) (trips_of old.memory) (calls_of old.memory) (Sync true) in
    on_ok c.sync.result (λ well.
    let listed = went_well (Sync true) old.memory c.sync.new.self c.sync.result well c.sync.ensures.lists in
    settled_by (older_of old) old.memory c.sync.new.self c.sync.ensures.lists.rest.start (is_none trip) (done_well trip listed.1) listed.0)
